-- What the answers of the code stand for, and a default by the tests that the code makes.
pub mod DefaultOf
pub mod Ways
