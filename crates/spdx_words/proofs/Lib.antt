pub mod Building
pub mod Entering
pub mod Saying
pub mod Answering
pub mod Examples
