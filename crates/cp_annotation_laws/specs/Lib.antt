pub mod Invariants
pub mod Plain
pub mod Annotations
