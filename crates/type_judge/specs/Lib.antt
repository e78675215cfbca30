-- What the judge's answers mean in the rules' terms, and laws of the rules that it goes by.
pub mod Decides
pub mod Deciding
