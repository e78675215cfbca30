-- What is kept of a model while it is read, and how it grows.
pub mod Kept
pub mod Grown
pub mod Joined
