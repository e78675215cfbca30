-- What the table of the members of "&" groups tells of a model, and what the bits of an open element tell of the places taken in it.
pub mod Members
pub mod Numbered
pub mod Inside
pub mod Around
pub mod Own
pub mod Sets
