-- The search for a place that may come next.
pub mod Rows
pub mod Search
