pub mod Shape
pub mod Fields
pub mod TableReading
pub mod Places
pub mod Written
