mod Words
pub mod reading
pub mod pairs
pub mod search
pub mod limits
pub mod names
pub mod rules
