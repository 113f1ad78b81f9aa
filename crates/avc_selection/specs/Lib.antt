pub mod Selected
pub mod Places
pub mod Forms
pub mod Words
pub mod Pictures
pub mod Followed
