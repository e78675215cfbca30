-- Laws of a type file that was read: its names, its declarations and its models.
pub mod Models
pub mod Made
pub mod Names
pub mod Width
pub mod Pcdata
pub mod Again
pub mod Members
pub mod Attributes
