pub mod Containers
pub mod Messages
