-- The sets of members of the groups of a model, as they are put behind what the table tells of them.
pub mod Storing
pub mod Linking
pub mod Telling
