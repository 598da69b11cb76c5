pub mod Chains
pub mod Codes
pub mod Hashes
pub mod Hashing
pub mod Numbers
pub mod Pieces
