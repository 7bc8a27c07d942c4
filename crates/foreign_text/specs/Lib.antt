pub mod Hidden
pub mod Written
pub mod Read
pub mod Names
pub mod PageText
pub mod PageStyle
pub mod PageHead
