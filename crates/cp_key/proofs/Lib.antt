pub mod Keys
pub mod KnownBodies
pub mod Lists
pub mod Machines
pub mod NumberKeys
pub mod Owned
pub mod Places
mod Words
