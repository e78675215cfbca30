-- The numbers of the reader's answer are such as C gets.
pub mod Fits
