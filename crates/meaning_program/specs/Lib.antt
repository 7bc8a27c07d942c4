pub mod Reading
pub mod Troubles
pub mod Sayings
pub mod Compared
pub mod Simplified
pub mod LineLaws
pub mod Files
