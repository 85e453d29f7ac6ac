mod Rows
pub mod CountedLists
pub mod PartRanges
pub mod PutPages
pub mod FileLemmas
pub mod LaneParts
pub mod Streaming
