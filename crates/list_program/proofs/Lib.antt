pub mod Parted
pub mod Cut
pub mod Gathered
pub mod Causes
pub mod Twice
