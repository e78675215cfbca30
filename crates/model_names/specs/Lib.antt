-- What the table of a model's names holds, in the rules' terms.
pub mod Places
pub mod Shared
