pub mod Runs
pub mod Placed
pub mod Coded
pub mod Parts
pub mod Laws
pub mod Taken
pub mod Taking
