-- The cells of a content model's table where groups are joined, and what each change leaves in them.
pub mod Each
pub mod Links
pub mod Zeros
pub mod Cells
pub mod Behind
