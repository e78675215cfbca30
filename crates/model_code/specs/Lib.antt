-- The code of a content model, and what a pass over it keeps.
pub mod Codes
pub mod Six
pub mod Stack
pub mod Spelled
