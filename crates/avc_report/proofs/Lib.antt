pub mod Decibels
pub mod Lines
pub mod Naturals
