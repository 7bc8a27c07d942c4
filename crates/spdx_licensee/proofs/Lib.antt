pub mod Unique
pub mod Zipped
pub mod Marks
pub mod Digits
pub mod Padding
pub mod Pieces
pub mod Theorem
pub mod FirstLetters
