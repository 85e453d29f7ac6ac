pub mod Keys
pub mod Counts
pub mod Sound
pub mod Residents
pub mod Rooms
pub mod New
pub mod Walks
pub mod Oldest
