-- The table of a content model: how it is filled, and what it then says.
pub mod Fill
pub mod Places
pub mod Shows
pub mod Behind
