pub mod Lengths
pub mod FirstLine
pub mod Occurring
pub mod Steps
pub mod InOrder
