pub mod AtOnce
pub mod Found
pub mod Listing
pub mod Numbering
