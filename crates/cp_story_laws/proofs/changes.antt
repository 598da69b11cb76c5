pub mod CellsHeld
pub mod ChangesAgree
pub mod MonitorsTold
pub mod NamesInside
pub mod NamesSpelled
pub mod SameCells
pub mod TokensAfter
