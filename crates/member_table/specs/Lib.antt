-- How the table of the members of "&" groups is filled from a model's code, and that it then tells the members.
pub mod Filling
pub mod Counting
pub mod Putting
pub mod Steps
pub mod Beside
pub mod Joined
pub mod Chains
pub mod Order
pub mod States
pub mod Closing
pub mod Fills
pub mod Tells
