pub mod Meant
pub mod Statements
