pub mod Had
pub mod NeverMet
pub mod Read
