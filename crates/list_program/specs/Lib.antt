pub mod Cells
pub mod Lines
pub mod Reading
pub mod Rows
pub mod Named
pub mod Dated
pub mod Troubles
pub mod Written
