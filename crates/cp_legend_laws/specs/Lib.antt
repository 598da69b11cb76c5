pub mod Called
pub mod Paths
pub mod PlacesTold
pub mod Routines
pub mod Statements
pub mod ValuesTold
