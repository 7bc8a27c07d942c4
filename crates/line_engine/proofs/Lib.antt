pub mod Byte
pub mod Answering
pub mod Cutting
pub mod Dividing
pub mod Known
pub mod Steps
pub mod Splitting
