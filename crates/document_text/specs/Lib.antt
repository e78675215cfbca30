-- What the code's answers mean in the rules' terms, and laws of the rules that it goes by.
pub mod PieceOf
pub mod Ways
