-- The open elements of the program beside the state of the rules, act by act.
pub mod Moment
pub mod Beside
pub mod Alike
pub mod Results
pub mod Steps
