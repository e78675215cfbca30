-- What is put into a buffer, and laws that the functions which put words there go by.
pub mod Adds
pub mod Words
