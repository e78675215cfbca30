-- What the tests of stretches say, and laws of them.
pub mod Fit
pub mod Tests
