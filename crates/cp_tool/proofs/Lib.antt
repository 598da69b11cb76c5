pub mod Telling
pub mod Using
mod Matched
mod WordLemmas
pub mod Meaning
pub mod Merging
mod Asking
mod Finding
mod Obtaining
