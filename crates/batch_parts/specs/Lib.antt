-- What holds of a judged type whose tables are filled, and what the answer to one part comes to.
pub mod Ready
