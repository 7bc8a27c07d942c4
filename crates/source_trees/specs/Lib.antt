pub mod Visits
pub mod Stops
pub mod Walks
pub mod Readings
