pub mod Places
pub mod Enough
pub mod AcceptedTogether
pub mod Allowing
pub mod Growing
pub mod Meeting
pub mod Passing
pub mod Together
