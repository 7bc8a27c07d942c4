pub mod Zips
pub mod Standing
pub mod Law
pub mod Ending
pub mod Counts
