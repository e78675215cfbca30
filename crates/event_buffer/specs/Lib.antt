-- What the lent buffers hold after events were written, and laws of it.
pub mod Buffers
pub mod EventByEvent
