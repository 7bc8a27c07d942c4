pub mod Lines
pub mod Device
pub mod Stream
pub mod Output
pub mod Progress
pub mod Rule
pub mod Runs
pub mod Pieces
