pub mod Sequences
pub mod Rates
pub mod Finding
