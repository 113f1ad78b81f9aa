mod Examples
pub mod Register
pub mod Sums
