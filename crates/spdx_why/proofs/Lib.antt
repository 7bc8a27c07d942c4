pub mod Numbering
pub mod Listing
pub mod Hanging
pub mod Chosen
pub mod Served
