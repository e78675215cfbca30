-- What end tags and the document's end promise, by each way that their code goes.
pub mod Closed
pub mod Ways
