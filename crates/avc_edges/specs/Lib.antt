pub mod Line
pub mod PlaneLine
pub mod Rows
pub mod OneEdge
pub mod Fits
pub mod Settings
pub use Rattle.avc_types.specs.Arithmetic
pub use Rattle.avc_plane.specs.Plane
