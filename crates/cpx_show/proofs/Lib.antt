pub mod Meaning
pub mod Naming
pub mod Refusing
pub mod Showing
pub mod Telling
pub mod Tracing
