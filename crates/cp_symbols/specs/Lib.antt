pub mod Kinds
pub mod Symbols
