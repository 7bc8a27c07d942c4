pub mod Ordered
pub mod Back
pub mod Named
pub mod Fitted
pub mod ReadFull
pub mod ReadForms
pub mod Blanks
pub mod Told
