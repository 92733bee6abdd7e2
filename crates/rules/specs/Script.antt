-- The script program: what a line means, what an answer prints, and the whole output for a whole input.
pub mod Bytes
pub mod Reading
pub mod Printing
pub mod Running
