pub mod Packages
pub mod Said
pub mod Tellings
pub mod Run
