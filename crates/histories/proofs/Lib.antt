pub mod Calls
pub mod Tails
pub mod Growing
pub mod Aloneness
