pub mod Bounds
pub mod Patch
pub mod Sums
