pub mod Fenced
pub mod Numbering
pub mod Pieces
pub mod Seeing
pub mod Heads
pub mod Picking
pub mod Documents
pub mod Naming
