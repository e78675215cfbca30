-- What is put into the table of members for one member of an "&" group and for one group, and what that leaves there.
pub mod Entries
pub mod Writes
pub mod Slots
