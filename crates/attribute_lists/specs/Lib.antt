-- Where the lists of a type stand, what the answers of the code stand for, and which element a list is for, and the lists in the order in which they were read.
pub mod Listed
pub mod Lookup
pub mod Heads
