-- Laws of a batch: of the loop over its documents, whether its lists are fit, and that the rules settle one
-- answer to it.
pub mod Turns
pub mod Fitting
pub mod Answered
