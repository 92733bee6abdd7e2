pub mod Options
pub mod Signs
pub mod Rows
pub mod Ranks
pub mod Ways
pub mod Declarations
pub mod Tests
pub mod Classes
