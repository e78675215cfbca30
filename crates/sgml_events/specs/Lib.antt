-- Which inputs the program prints for.
pub mod Files
