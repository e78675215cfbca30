-- How the rows of a model's table become bits, and what they then say.
pub mod Bits
pub mod Rows
