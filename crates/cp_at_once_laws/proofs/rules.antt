pub mod Around
pub mod Parameters
pub mod Started
pub mod StartsKnown
