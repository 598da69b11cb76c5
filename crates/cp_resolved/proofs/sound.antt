pub mod OwnCalls
pub mod OwnCallsOfTables
pub mod Propositions
pub mod SoundComponents
pub mod SoundItems
pub mod SoundParameters
pub mod SoundTables
