-- How ends and starts are inferred before a token.
pub mod Inferring
pub mod Starts
pub mod Inward
pub mod Ends
