pub mod Levels
pub mod Vectors
pub mod Names
pub mod Words
