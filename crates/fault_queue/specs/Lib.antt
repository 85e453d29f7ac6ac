pub mod InsideQueues
pub mod Queues
