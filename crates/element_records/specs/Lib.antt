-- What is kept of the elements of a type file while it is read, and laws of the rules that keeping goes by.
pub mod Progress
pub mod Records
pub mod Clashes
pub mod Declaration
