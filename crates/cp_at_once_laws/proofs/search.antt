pub mod Front
pub mod Goals
pub mod Given
