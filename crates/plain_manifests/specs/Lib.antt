pub mod Grammars
pub mod Names
pub mod Places
pub mod Sites
