pub mod BodiesStand
pub mod ChecksStand
pub mod Ended
pub mod Expressions
pub mod Going
pub mod ItemsMean
pub mod StatementsStand
pub mod Targets
