pub mod Spelled
pub mod Asked
pub mod ByRule
pub mod Good
pub mod Breaks
pub mod Links
