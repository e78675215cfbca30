-- The printed text by the numbers of the buffers, and laws that the functions which put it go by.
pub mod TextOf
pub mod LineByLine
mod Examples
