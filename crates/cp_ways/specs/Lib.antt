pub mod Ways
pub mod Weights
