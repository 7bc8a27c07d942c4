pub mod Forms
pub mod Shared
pub mod Gate
pub mod Changes
pub mod Unchosen
pub mod Texts
pub mod Notice
