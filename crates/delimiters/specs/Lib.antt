-- What the class of a byte says, and the table of all classes.
pub mod Classes
pub mod Table
