pub mod Ordered
pub mod Bands
pub mod Standing
pub mod Cuts
pub mod Turned
