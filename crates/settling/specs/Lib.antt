-- How a start tag or a run of data is settled.
pub mod Settled
pub mod Tokens
pub mod Steps
