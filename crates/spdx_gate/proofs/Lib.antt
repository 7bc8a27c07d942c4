pub mod Passing
pub mod Works
pub mod Offers
pub mod Benches
pub mod Rows
pub mod Counting
pub mod Spelling
pub mod Once
pub mod Order
pub mod Normal
pub mod OneReport
mod Needing
mod Sets
mod Counted
