-- How the tables of a type are filled, and that they then say what they are to say.
pub mod Places
pub mod Told
pub mod Filled
pub mod Kinds
pub mod Again
pub mod Names
pub mod Elements
pub mod Own
