pub mod Comparisons
pub mod Seeking
pub mod Further
pub mod Meetings
