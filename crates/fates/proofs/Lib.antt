-- Laws of numbered constraints against the rules.
pub mod Fates
