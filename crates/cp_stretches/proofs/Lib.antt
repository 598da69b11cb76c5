pub mod Statuses
pub mod Turns
pub mod Ending
pub mod Growing
pub mod Going
pub mod Becoming
pub mod Knowing
pub mod Admitting
