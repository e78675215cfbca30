-- How much of a file was read.
pub mod Loaded
pub mod Loading
