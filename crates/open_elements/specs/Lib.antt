-- What the open elements of the code stand for, in the rules' terms.
pub mod Stands
pub mod Becomes
pub mod Taken
pub mod Methods
pub mod Marks
