pub mod Joining
pub mod Quarters
pub mod Inner
