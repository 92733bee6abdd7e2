-- What the functions' proofs share.
pub mod PickLaws
pub mod Gathered
pub mod Covered
pub mod Named
pub mod Searches
pub mod Seeking
pub mod Shifts
pub mod Rearranged
pub mod Orders
