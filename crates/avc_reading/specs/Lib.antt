pub mod Derived
pub mod Neighbours
pub mod Slices
pub mod Near
pub mod Asked
pub mod Listing
pub mod Reading
