mod Common
mod Addresses
mod RawBoxes
mod Telling
