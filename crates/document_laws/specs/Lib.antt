-- Laws of the document half of the rules: settling is walked once; what the walks decide is decided, and in one way only.
pub mod OneReading
pub mod Agree
pub mod Decide
pub mod Numbers
pub mod Chain
pub mod Moves
pub mod Under
pub mod Same
pub mod Answers
-- The documents of the paper's shelf.
pub mod Ascii
pub mod Check
pub mod Shelf
