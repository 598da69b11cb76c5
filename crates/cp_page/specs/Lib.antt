pub mod Escaping
pub mod Halts
