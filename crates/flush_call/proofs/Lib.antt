pub mod Lists
pub mod Regions
pub mod Results
pub mod Walking
