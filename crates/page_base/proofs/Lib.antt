mod KeyOrders
mod Leasts
mod Places
mod SameKeys
mod Sets
