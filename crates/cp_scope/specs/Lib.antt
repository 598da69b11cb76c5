pub mod Counts
pub mod Judged
pub mod Scopes
pub mod Types
pub mod View
