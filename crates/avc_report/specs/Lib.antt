pub mod Psnr
pub mod Naturals
pub mod Text
