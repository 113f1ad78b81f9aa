pub mod Checksums
pub mod Colour
pub mod Chunks
pub mod Deflate
pub mod Image
