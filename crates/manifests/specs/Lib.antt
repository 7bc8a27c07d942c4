pub mod Json
pub mod Names
pub mod OldTable
pub mod Sites
pub mod Steps
pub mod Toml
pub mod Written
