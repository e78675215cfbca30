-- Small laws of truth values and numbers that the library does not have.
pub mod Truth
pub mod Numbers
