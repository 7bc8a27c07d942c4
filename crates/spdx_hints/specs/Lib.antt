pub mod Words
pub mod Rules
pub mod Hints
pub mod Borrowed
pub mod Phrase
pub mod Plain
