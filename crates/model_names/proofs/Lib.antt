-- What follows from a key.
pub mod Keys
