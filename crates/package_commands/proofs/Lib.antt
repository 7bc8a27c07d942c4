pub mod Steps
pub mod Hearing
pub mod Ends
pub mod Gates
pub mod Diffs
pub mod Choosing
pub mod Obstacles
pub mod Noticing
