pub mod Truths
pub mod Selection
pub mod Weights
pub mod Sets
pub mod Order
