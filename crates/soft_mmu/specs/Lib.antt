pub mod Entries
pub mod InsideLeaves
pub mod InsideWords
