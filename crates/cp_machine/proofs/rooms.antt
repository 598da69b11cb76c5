pub mod Keeping
pub mod KeepingAct
pub mod KeepingSteps
pub mod KernelFits
pub mod OpeningFits
pub mod RoomLemmas
