pub mod Meant
pub mod OfAny
