pub mod Gathering
pub mod Naming
pub mod Placing
