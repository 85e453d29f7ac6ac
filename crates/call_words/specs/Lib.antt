pub mod Uses
pub mod Variables
pub mod Calls
pub mod InsideAsked
