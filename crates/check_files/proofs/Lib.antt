pub mod Begun
pub mod Clean
pub mod Doing
pub mod Needed
pub mod Steps
pub mod Wholes
