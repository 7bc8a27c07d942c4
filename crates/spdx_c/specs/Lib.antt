pub mod Held
pub mod Owned
pub mod Lists
pub mod Reports
pub mod Modes
pub mod Calls
