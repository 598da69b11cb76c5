pub mod NamesOfTree
pub mod ProgramOfTree
pub mod RoutinesOfTree
pub mod SystemsOfTree
