pub mod Closings
pub mod InsideClosed
pub mod InsideOpened
pub mod Laws
pub mod Regions
