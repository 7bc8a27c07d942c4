pub mod LicenseChecker
pub mod Lines
pub mod Metadata
pub mod Pnpm
pub mod SpdxThree
pub mod Verdicts
pub mod Separated
pub mod Tables
