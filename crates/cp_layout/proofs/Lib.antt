pub mod Around
pub mod NamesSeen
pub mod Settling
pub mod Laid
pub mod LaidLists
pub mod LaidParts
pub mod Least
pub mod Listed
pub mod SymbolLists
pub mod Systems
mod Words
