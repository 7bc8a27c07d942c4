pub mod Rows
pub mod Wanted
pub mod Notices
pub mod Once
pub mod Stands
pub mod Places
pub mod Grouping
