pub mod Telling
pub mod Pieces
pub mod Lining
pub mod Lines
pub mod Ends
