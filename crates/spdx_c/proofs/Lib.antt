pub mod Lending
pub mod Pointer
pub mod Boxed
