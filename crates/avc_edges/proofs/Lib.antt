pub mod EdgesOnPlane
