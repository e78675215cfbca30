-- What content tokens add to a model, and laws of the rules that this goes by.
pub mod Meets
pub mod Readings
pub mod Tokens
