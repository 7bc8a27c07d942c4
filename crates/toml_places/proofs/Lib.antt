pub mod Scan
pub mod Placed
