pub mod Frames
pub mod Buffers
pub mod Insides
