-- The tokens of a list as the table holds them, and what reading a group gives.
pub mod Tokens
pub mod TokenByToken
