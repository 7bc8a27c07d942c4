pub mod Literals
pub mod Mended
pub mod Paths
pub mod Places
