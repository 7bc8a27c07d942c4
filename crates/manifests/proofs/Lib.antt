pub mod Apart
pub mod ApartToml
pub mod JsonWays
pub mod Marks
pub mod SoFar
pub mod TomlWays
pub mod Led
pub mod Mendable
