pub mod OwnCells
