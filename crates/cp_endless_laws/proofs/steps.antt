pub mod Alone
pub mod MoreSteps
pub mod Nodes
pub mod Repeating
pub mod Rounds
pub mod Tables
