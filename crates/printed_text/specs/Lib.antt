-- What the small program prints, and laws that its functions go by.
pub mod Accepted
pub mod Attributes
pub mod Listed
pub mod Table
pub mod Answers
