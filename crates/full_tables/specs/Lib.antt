-- What the tables of an accepted type hold.
pub mod Full
pub mod And
