pub mod Marks
pub mod Passing
pub mod Reached
