pub mod Spreads
pub mod FlatRegions
pub mod Worlds
pub mod Lines
pub mod Flat
pub mod Worked
