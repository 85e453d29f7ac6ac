pub mod Flushes
pub mod InsideWalks
pub mod OverStripes
pub mod Unmaps
pub mod UnmapsAll
