-- What goes on a run of data, and where it ends.
pub mod Runs
