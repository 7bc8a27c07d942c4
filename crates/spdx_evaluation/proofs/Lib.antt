pub mod Nodes
pub mod Machine
pub mod Evaluating
pub mod Logging
pub mod Answering
pub mod Outcome
