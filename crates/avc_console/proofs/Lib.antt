pub mod Texts
pub mod Waiting
pub mod StartCodes
