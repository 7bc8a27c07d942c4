pub mod Chooses
pub mod Selections
pub mod Asking
pub mod Places
pub mod Chosen
pub mod Doubles
pub mod FirstPlaces
pub mod OneRequirement
