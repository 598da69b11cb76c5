pub mod Arms
pub mod Asserted
pub mod Branches
pub mod Expressions
mod Few
pub mod Fields
pub mod Folded
pub mod Fronts
pub mod Judging
pub mod Labels
pub mod Left
pub mod Lists
pub mod Numbers
pub mod Statements
mod Words
