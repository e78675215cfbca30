-- The place that each start took, by walks (paper 02, request seven), and where an event of a document stands among the events of attributes (request one).
pub mod Taken
pub mod Pinned
pub mod Stood
