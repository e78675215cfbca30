-- The shelf of examples of paper 01, as far as it speaks of types, names looked up under its type T, comment declarations, names of other lengths, and record ends.
pub mod Check
pub mod Models
pub mod Lookups
pub mod Lengths
pub mod Comments
pub mod RecordEnds
