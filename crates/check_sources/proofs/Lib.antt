pub mod Reading
pub mod Spelling
pub mod Telling
pub mod Trimming
pub mod Unused
pub mod Further
pub mod Manifests
pub mod Texts
