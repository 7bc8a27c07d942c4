pub mod Buffer
pub mod Reasons
pub mod Licensees
pub mod Faults
pub mod Questions
pub mod Answers
pub mod Bits
pub mod Meanings
