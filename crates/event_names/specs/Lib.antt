-- The names of events by the numbers of the buffers, and laws that the functions which put them go by.
pub mod Names
pub mod Naming
