-- What the search for a pair at fault finds, in the rules' terms.
pub mod Finds
