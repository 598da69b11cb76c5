pub mod Mixed
pub mod Reading
pub mod Taking
pub mod Opening
pub mod Leaving
pub mod Sources
