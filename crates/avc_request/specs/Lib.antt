pub mod Commands
pub mod FileKinds
pub mod Numberings
