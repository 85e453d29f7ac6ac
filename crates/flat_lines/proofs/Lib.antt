pub mod Bytes
pub mod Ranges
pub mod Lines
pub mod Whole
pub mod Owners
pub mod Worked
