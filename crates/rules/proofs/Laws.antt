-- Laws of tests, of covering, of the order and of sets.
pub mod Bools
pub mod Covering
pub mod Ordering
pub mod Sets
