-- The order of refusals, and that every rule is a function.
pub mod Refusals
pub mod Tight
