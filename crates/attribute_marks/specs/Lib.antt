-- The attributes that a start tag gives, held against the list of its element: how they are marked, and what is refused.
pub mod Called
pub mod Found
pub mod Differ
pub mod Marks
pub mod Each
pub mod Marking
pub mod Listed
pub mod Missing
pub mod Turns
pub mod Answers
