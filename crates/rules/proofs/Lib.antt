-- The theorems about document 01's definitions.
pub mod Laws
pub mod ByRunning
pub mod Calls
pub mod Kept
pub mod Same
pub mod Demand3
