pub mod Verdict
pub mod Lines
pub mod Trees
pub mod Program
pub mod Ending
pub mod Found
pub mod Remembered
pub mod Answer
