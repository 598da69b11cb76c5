pub mod Names
pub mod Places
pub mod Values
pub mod Written
