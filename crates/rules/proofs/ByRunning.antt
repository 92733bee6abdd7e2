-- The worked points of document 01, by running the definitions.
pub mod Questions
pub mod Worked
