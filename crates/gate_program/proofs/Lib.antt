pub mod Zips
pub mod Asking
pub mod Law
pub mod Runs
pub mod Laws
pub mod Scopes
