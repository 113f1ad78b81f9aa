pub mod MacroblockMotion
