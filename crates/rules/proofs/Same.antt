-- Settling ends, every call keeps the satisfying assignments, and check decides whether there are any.
pub mod Drawing
pub mod Completions
pub mod LosingSamples
pub mod DroppingNeedless
pub mod SameAssignments
pub mod SameAdding
pub mod Deciding
