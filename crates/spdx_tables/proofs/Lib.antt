pub mod Back
pub mod Numbered
pub mod Tokens
