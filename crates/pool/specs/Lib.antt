pub mod Picks
pub mod Pools
pub mod Answers
