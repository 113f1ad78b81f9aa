pub mod Places
pub mod Origin
pub mod Differences
pub mod Laws
