-- What the numbers behind the C calls mean in the rules' terms, and laws of them.
pub mod Fits
pub mod AnswersFit
