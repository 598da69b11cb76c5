pub mod Chaining
pub mod Piecing
