-- What the reader of an element's content answers, and laws of the rules that it goes by.
pub mod Kept
pub mod Contents
