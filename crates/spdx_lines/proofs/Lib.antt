pub mod Laxer
pub mod Verdict
pub mod Answered
pub mod Keeping
pub mod Licensee
pub mod Licensees
pub mod Ends
