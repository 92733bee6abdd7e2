-- What the functions' proofs share.
pub mod Signed
pub mod Signs
pub mod Tabled
pub mod Tried
pub mod Positions
pub mod Calls
pub mod Pairwise
pub mod Compared
pub mod ShownRows
pub mod Fitting
pub mod RowTests
pub mod RowReads
pub mod Masks
pub mod Classes
