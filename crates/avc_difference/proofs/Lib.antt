pub mod Counting
pub mod Origins
pub mod Windows
