pub mod Each
pub mod Levels
pub mod Slashes
