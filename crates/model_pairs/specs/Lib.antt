-- The search for a pair at fault in a model's tables.
pub mod Rows
pub mod Seeks
