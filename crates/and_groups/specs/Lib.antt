-- What is decided by the members that have begun when a place is taken.
pub mod Takes
pub mod Asked
pub mod Entering
pub mod Blocking
pub mod Lacking
pub mod Taking
