pub mod Adding
pub mod Layers
pub mod Leading
pub mod Marking
pub mod Reached
pub mod Visited
