pub mod Spacing
pub mod Firsts
pub mod Texts
pub mod Zips
pub mod FilesRead
pub mod AllRead
