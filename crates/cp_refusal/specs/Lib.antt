pub mod Excerpts
pub mod Explaining
pub mod Lines
pub mod Text
