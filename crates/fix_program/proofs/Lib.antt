pub mod Joined
pub mod Stamped
pub mod Untouched
pub mod Walked
pub mod Runs
pub mod Shown
pub mod Passing
pub mod Each
