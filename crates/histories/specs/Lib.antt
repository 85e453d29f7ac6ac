pub mod Histories
pub mod Relations
