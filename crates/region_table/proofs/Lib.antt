pub mod Covering
pub mod Cutting
pub mod Keeping
pub mod Paths
pub mod Following
