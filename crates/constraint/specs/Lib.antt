pub mod Numbered
pub mod Losses
