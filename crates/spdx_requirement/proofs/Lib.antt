pub mod Suffixes
pub mod Documents
