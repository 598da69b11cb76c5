pub mod Alike
pub mod Disciplines
pub mod Forgetting
pub mod HoldsInReached
pub mod Meaning
pub mod ReachedKinds
pub mod Turns
mod Words
pub mod assignments
pub mod calls
pub mod control
pub mod expressions
pub mod gates
pub mod queues
pub mod reached
pub mod starts
pub mod steps
pub mod trees
