-- How a token takes its place.
pub mod Noting
pub mod Places
