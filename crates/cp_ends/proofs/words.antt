pub mod Edges
pub mod Firsts
pub mod Returns
pub mod Translated
