pub mod Example
pub mod Found
pub mod Lassos
pub mod Ranks
pub mod ReadyRounds
pub mod Traps
