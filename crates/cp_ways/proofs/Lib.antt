pub mod Counted
mod Given
pub mod Remembered
pub mod Steps
pub mod Sums
pub mod Told
