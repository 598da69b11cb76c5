pub mod Noting
pub mod Touching
pub mod Watching
pub mod Changes
pub mod Renewing
pub mod Remembered
pub mod Known
pub mod Admitting
