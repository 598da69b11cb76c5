pub mod Again
pub mod Ending
pub mod Hashing
pub mod Waiting
