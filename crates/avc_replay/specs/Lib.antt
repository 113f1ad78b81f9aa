pub mod Cutting
pub mod Tracing
pub mod Replaying
pub mod Program
