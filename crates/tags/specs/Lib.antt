-- What a tag that was read stands for, and how the rules read one; the attributes of a start tag one after the other.
pub mod Tags
pub mod Given
pub mod Attributes
