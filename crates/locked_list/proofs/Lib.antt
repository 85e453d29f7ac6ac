pub mod Ends
pub mod Sent
