-- The loop of a reader in the rules' own terms, and a run of data settled at once.
pub mod RunAtOnce
pub mod Again
pub mod Joins
pub mod Enough
pub mod Leaves
pub mod Steps
pub mod Run
pub mod Turns
pub mod Within
pub mod Latest
