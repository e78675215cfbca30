-- What is kept of the attributes that a start tag gives, and how the rules read one.
pub mod Given
pub mod Kept
pub mod Ways
