pub mod Fractions
pub mod Found
