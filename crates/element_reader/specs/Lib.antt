-- What the element reader's answers mean in the rules' terms, and laws of the rules that it goes by.
pub mod Keeps
pub mod Ways
