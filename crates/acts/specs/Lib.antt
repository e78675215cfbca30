-- The acts of which a reading consists: what is true of them, and that every reading is such a sequence.
pub mod Sequences
pub mod Settled
pub mod Pieces
pub mod Readings
pub mod Deeds
