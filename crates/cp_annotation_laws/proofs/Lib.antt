pub mod invariants
pub mod annotations
