-- What the events of a document are, in the rules' terms, and the laws of the loop that reads them.
pub mod Loop
pub mod Again
pub mod Turns
pub mod Marks
