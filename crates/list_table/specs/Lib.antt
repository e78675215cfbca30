-- The attribute lists of a type as the table holds them, and what the loops over them find.
pub mod Lists
pub mod Finds
