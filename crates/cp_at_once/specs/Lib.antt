pub mod Holds
pub mod Legs
pub mod Following
pub mod ByRows
pub mod Whole
pub mod Told
