pub mod Refused
pub mod Schedules
pub mod Selecting
pub mod Shown
pub mod Summaries
pub mod Told
