-- How the scan of a literal ends.
pub mod Ways
