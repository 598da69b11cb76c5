pub mod Numbers
pub mod Telling
pub mod Cached
pub mod Stretching
