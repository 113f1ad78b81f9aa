pub mod Laws
pub mod Headline
pub mod EarlyOutput
