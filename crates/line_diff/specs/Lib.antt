pub mod Diff
pub mod Applied
