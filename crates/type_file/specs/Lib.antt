-- What the reader of a type file answers, and laws of the rules that it goes by.
pub mod File
pub mod Declarations
pub mod Turns
