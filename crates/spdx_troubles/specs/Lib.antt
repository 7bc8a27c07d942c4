pub mod Status
pub mod Causes
pub mod Lines
