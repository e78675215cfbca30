-- Record ends in the code: what is held, and laws of it.
pub mod Held
pub mod Ignoring
pub mod Whole
pub mod Freeing
