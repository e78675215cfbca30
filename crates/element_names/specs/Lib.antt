-- What the reader of an element's name answers, and laws of the rules that it goes by.
pub mod Names
pub mod Records
pub mod Naming
