pub mod Texts
pub mod Documents
pub mod Mentions
pub mod Reading
pub mod Listed
pub mod Faults
pub mod All
