-- Members as bits.
pub mod Having
pub mod Bits
pub mod Operations
