-- The loop that infers ends.
pub mod Until
pub mod Ends
pub mod Loop
