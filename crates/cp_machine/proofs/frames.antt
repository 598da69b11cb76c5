pub mod Covered
pub mod Framing
pub mod FramingAct
pub mod FramingOpening
pub mod FramingSteps
pub mod ReachingKept
pub mod ReadLemmas
