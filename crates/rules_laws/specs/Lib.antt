-- Laws of the rules: what holds of one reading and of two, and each grammar walked once.
pub mod Holds
pub mod Both
pub mod Offered
pub mod In
pub mod Groups
pub mod Gaps
pub mod Definitions
pub mod Declarations
pub mod Within
pub mod Pieces
pub mod Names
pub mod Runs
pub mod BeforeStarts
