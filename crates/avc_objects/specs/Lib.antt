pub mod JsonLines
pub mod Json
pub mod Parts
