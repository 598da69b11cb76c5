pub mod Loads
pub mod Parsing
pub mod Scanning
