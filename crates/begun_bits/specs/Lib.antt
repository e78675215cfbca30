-- What is read and put of the bits of the members that have begun.
pub mod Levels
pub mod Stores
