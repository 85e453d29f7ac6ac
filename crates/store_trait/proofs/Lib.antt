pub mod Told
pub mod Listed
pub mod Places
pub mod Rows
pub mod Shares
pub mod Joins
