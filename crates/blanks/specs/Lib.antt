-- What comes next at a position of a document, and laws of it.
pub mod Next
pub mod Blanks
