pub mod Basics
mod Words
pub mod possible
pub mod steps
pub mod waiting
pub mod slots
pub mod names
