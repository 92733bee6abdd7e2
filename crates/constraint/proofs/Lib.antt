-- Laws of a constraint's numbers.
pub mod Numbers
pub mod Members
pub mod Losing
