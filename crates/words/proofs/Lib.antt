-- What the functions' proofs stand on, and later crates may use.
pub mod Bits
pub mod Counting
pub mod FourWords
