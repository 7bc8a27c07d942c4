pub mod Names
pub mod Noted
pub mod Ordered
pub mod Causes
pub mod Parts
pub mod Each
