pub mod ManifestFixing
pub mod ManifestNeeds
pub mod ManifestProgress
pub mod Mending
pub mod Spans
pub mod Fixing
pub mod Mended
pub mod Accepted
