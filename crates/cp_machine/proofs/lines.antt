pub mod KernelLines
pub mod LineLemmas
pub mod LineLists
pub mod OpeningLines
pub mod StepLines
