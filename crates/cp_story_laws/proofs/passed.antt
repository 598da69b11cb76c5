pub mod FramesFound
pub mod NamedCalls
pub mod OwnNames
pub mod PassedAgree
pub mod PassedNow
pub mod PlacesAgree
pub mod ReferencesFilled
pub mod RoutinesMeant
