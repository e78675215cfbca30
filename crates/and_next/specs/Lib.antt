-- Which place may come next after the members that have begun.
pub mod Follows
pub mod Forbidding
pub mod Following
