-- What the reader's answer stands for, in the rules' terms, and laws of it.
pub mod Answer
pub mod Answering
