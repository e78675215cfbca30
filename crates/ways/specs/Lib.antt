-- What the current element has to say to a token.
pub mod Asks
pub mod Chains
pub mod Ends
