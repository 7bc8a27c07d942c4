pub mod Behind
pub mod Succeeding
pub mod Listing
pub mod Lines
