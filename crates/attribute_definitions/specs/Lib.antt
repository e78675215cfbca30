-- What the answers of the code stand for, and a definition by the tests that the code makes.
pub mod Definition
pub mod Ways
