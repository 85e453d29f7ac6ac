pub mod Going
pub mod Regions
pub mod Places
pub mod Resting
pub mod Kept
