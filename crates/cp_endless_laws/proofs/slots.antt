pub mod Output
pub mod Ready
