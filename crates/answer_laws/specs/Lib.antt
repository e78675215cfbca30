-- The rules settle one answer of the judge and one of the reader, and what each such answer is: what the page of crates/demands goes by.
pub mod Judge
pub mod Reader
