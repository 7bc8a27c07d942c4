pub mod Postfix
pub mod PostfixLaws
pub mod Requirements
pub mod Truth
pub mod Calls
pub mod ByRequirement
pub mod Outcome
