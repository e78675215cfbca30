-- What the answers of the code stand for, and a list by the tests that the code makes.
pub mod ListAs
pub mod OneByOne
