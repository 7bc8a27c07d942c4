pub mod Finding
pub mod Found
pub mod Checking
pub mod Refusals
pub mod Totals
pub mod Known
