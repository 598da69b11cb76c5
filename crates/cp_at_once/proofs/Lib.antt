pub mod Keeping
pub mod Noting
pub mod Following
pub mod Choices
pub mod Arriving
pub mod Nothing
pub mod Phases
pub mod Legs
pub mod Staying
pub mod Going
pub mod Pending
pub mod Tied
pub mod Saying
pub mod Telling
pub mod Unwinding
mod Words
