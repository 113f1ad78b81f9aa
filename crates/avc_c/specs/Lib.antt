pub mod Awaited
pub mod CallsOfC
pub mod EventRecords
pub mod Exports
pub mod FaultNames
pub mod Marks
pub mod OpenDecoders
pub mod Owned
