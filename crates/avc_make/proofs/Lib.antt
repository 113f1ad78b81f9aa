pub mod Rows
pub mod Slices
