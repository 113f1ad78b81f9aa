pub mod Escaping
pub mod Made
pub mod Making
pub mod Rbsps
pub mod Words
