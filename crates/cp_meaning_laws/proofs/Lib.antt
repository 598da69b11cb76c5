pub mod Accepting
pub mod Classes
pub mod Earlier
pub mod Kept
pub mod Loud
pub mod Once
pub mod Paths
pub mod Told
mod Words
