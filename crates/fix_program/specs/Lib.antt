pub mod Diffs
pub mod Troubles
pub mod Files
pub mod Ends
pub mod Trees
pub mod Runs
pub mod Passing
pub mod Shown
