-- What the tables of a type say, in the rules' terms.
pub mod Tables
pub mod Ranges
pub mod Marks
pub mod Fitting
pub mod Inferring
