pub mod Filters
pub mod Zips
pub mod Faults
