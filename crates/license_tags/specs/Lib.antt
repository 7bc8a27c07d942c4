pub mod Comments
pub mod Tags
