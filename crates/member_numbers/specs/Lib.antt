-- What is read of the table of the members of "&" groups.
pub mod Words
