pub mod AtPath
pub mod Opened
pub mod Shelf
pub mod Variables
pub mod Held
