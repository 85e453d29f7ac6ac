pub mod Status
pub mod Inputs
pub mod Runs
pub mod Top
pub mod InsideTop
