pub mod SetUnits
