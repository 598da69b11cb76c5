pub mod EndsData
pub mod EndsText
pub mod Given
pub mod MarkData
pub mod MarkText
pub mod Showing
pub mod Stories
pub mod Told
