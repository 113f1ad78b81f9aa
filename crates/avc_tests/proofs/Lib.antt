pub mod SetsInForce
