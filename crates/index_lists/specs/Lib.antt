pub mod Lists
pub mod InsideNodes
pub mod Orders
pub mod InsideOrders
