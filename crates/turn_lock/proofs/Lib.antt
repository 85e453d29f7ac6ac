pub mod Endings
pub mod Ends
pub mod Holds
pub mod Parting
pub mod Passes
pub mod Sums
pub mod Views
