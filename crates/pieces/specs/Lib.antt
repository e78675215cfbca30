-- What stands at a position of a document, and laws of it.
pub mod Finds
pub mod Pieces
