pub mod Own
pub mod Simple
