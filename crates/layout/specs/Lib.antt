-- How large the tables are that are lent from crate to crate, and what stands in them.
pub mod Sizes
pub mod Typed
