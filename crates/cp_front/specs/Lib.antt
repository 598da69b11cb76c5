pub mod Calls
pub mod Loading
pub mod Refusals
pub mod Transfer
