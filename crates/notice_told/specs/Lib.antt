pub mod Packages
pub mod Lacks
pub mod Texts
pub mod Page
pub mod Totals
