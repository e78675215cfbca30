-- What a buffer holds after numbers were written to it, and laws of it.
pub mod Written
pub mod Stores
