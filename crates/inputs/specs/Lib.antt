-- What is known of both inputs before they are read, and laws of the search for a byte that is not allowed.
pub mod Checks
pub mod Looking
