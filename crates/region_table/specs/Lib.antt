pub mod Covers
pub mod Cuts
pub mod InsideRules
pub mod Pieces
pub mod Regions
pub mod Rules
