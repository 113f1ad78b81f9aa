pub mod Fed
pub mod Traced
pub mod Replayed
pub mod Opened
pub mod CutUnits
