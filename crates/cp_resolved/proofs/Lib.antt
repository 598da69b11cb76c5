pub mod Resolving
mod Words
pub mod agreeing
pub mod components
pub mod counts
pub mod declarations
pub mod forms
pub mod frames
pub mod inside
pub mod items
pub mod laid
pub mod names
pub mod sound
pub mod statements
pub mod systems
pub mod worked
