pub mod Tally
pub mod Told
pub mod Passing
pub mod Parts
pub mod Noted
pub mod Files
pub mod Clean
pub mod Begun
