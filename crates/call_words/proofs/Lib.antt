pub mod Words
pub mod Walks
pub mod Commands
pub mod Values
pub mod Numbers
pub mod Layouts
