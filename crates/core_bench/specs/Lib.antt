pub mod Hands
pub mod InsideHands
