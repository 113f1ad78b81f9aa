pub mod Progress
pub mod Rates
