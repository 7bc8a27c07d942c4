pub mod Blanks
pub mod Findings
pub mod Fixes
pub mod Frames
pub mod Writing
pub mod Ended
