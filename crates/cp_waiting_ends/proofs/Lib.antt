pub mod Meeting
pub mod Reaching
pub mod Seeing
pub mod Waits
