pub mod AtOnce
pub mod Quiet
pub mod Found
pub mod Limited
pub mod Search
pub mod Through
pub mod Whole
pub mod OnSlots
