pub mod Calls
pub mod RenumberedHistories
pub mod Resuming
pub mod Streams
