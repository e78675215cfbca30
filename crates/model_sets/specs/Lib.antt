-- What can be computed of a content model by recursion on its groups, and how a first pair is searched.
pub mod Sets
pub mod Numbering
pub mod Search
