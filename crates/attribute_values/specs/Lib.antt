-- What the functions answer, in the rules' terms, and the parts of a text.
pub mod Parts
pub mod Tests
pub mod Groups
