-- What the reader of a declaration's head answers, and laws of the rules that it goes by.
pub mod Heads
pub mod Words
pub mod Ends
