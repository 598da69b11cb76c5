pub mod CallingBodies
pub mod CallingPlaced
pub mod CallingProgram
pub mod SmallestProgram
pub mod SmallestSound
