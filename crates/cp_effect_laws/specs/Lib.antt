pub mod Footprint
pub mod Touches
pub mod Effects
pub mod Parts
