pub mod Adding
pub mod FromLayer
pub mod FromState
pub mod Leading
mod Visiting
mod Words
