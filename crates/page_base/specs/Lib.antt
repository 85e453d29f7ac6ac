pub mod Backings
pub mod KeyOrder
pub mod Lanes
pub mod Laws
pub mod Layouts
pub mod ListSeen
pub mod Pages
