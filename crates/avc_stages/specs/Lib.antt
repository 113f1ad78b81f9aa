pub mod Stages
pub mod Strengths
pub mod Motions
pub mod Text
