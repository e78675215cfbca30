-- What is put of the attributes of a type, and laws that the functions which put it go by.
pub mod Recorded
pub mod Numbers
pub mod ListByList
pub mod Decided
