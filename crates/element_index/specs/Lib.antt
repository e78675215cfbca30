-- What an index of a type's elements says, and the laws by which it is filled and read.
pub mod Indexed
pub mod Seeking
