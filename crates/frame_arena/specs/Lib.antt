pub mod Frames
pub mod InsideOwnership
pub mod InsideArenas
