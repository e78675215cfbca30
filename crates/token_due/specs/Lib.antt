-- What is due behind a token and behind an end tag.
pub mod Shown
pub mod Freed
pub mod EndTags
