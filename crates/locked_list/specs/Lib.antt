pub mod Adders
pub mod Numbers
pub mod Passes
