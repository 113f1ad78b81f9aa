pub mod Ratios
pub mod Presenting
