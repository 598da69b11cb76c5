pub mod Going
pub mod InCalls
pub mod Meant
pub mod Processes
pub mod Together
pub mod Values
pub mod WaitTogether
