-- How places of the same name are found by their keys.
pub mod Keys
