pub mod InsideHands
