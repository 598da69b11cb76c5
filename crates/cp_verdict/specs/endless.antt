pub mod AtOnce
pub mod Behaviour
pub mod Expectations
pub mod Judged
pub mod Knowledge
pub mod Marked
pub mod Naming
pub mod Said
