-- A new store meets the condition, and every call keeps it.
pub mod Freeing
pub mod AfterFreeing
pub mod EachDraw
pub mod Irredundant
pub mod Moving
pub mod FreeNumbers
pub mod ValidSets
pub mod ValidSweeping
pub mod ValidSettling
pub mod AddSteps
pub mod ValidAdding
pub mod ClauseTests
pub mod MoreDeclared
pub mod Refusing
pub mod ValidCalls
