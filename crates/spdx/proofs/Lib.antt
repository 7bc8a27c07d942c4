pub mod Leaves
pub mod Alike
pub mod Telling
pub mod PlacedNodes
pub mod ReadFrom
