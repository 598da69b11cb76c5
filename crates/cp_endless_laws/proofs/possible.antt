pub mod Layers
pub mod Settled
pub mod Tables
pub mod Values
pub mod Walks
pub mod Words
