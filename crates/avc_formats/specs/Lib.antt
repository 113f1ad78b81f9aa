pub mod Formats
pub mod Selecting
pub mod Md5Line
pub mod Front
pub mod Text
pub mod Y4m
pub mod FrameMd5
pub mod Headed
