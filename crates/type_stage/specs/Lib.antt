-- What a type file comes to once it is judged, and a document in its order with it; laws of both.
pub mod Stages
pub mod Order
