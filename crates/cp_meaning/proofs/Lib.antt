mod Annotated
pub mod ComponentTree
mod Counts
pub mod Exclusion
mod Features
mod Following
pub mod Frames
pub mod Good
pub mod Held
pub mod Holder
pub mod KernelLaw
mod Least
pub mod LineLaw
mod Lines
pub mod LocalLaw
mod Order
pub mod Orderly
mod OwnChanges
pub mod OwnKernel
pub mod OwnLocal
pub mod OwnOpening
pub mod OwnershipLemmas
mod PlainItems
mod Room
mod Shown
mod Signalled
pub mod Stored
pub mod Taken
mod Traces
mod Wanted
mod Witness
mod Words
mod Written
mod worked
