pub mod Absent
pub mod Outcomes
pub mod Tasks
