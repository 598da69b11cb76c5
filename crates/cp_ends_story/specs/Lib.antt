pub mod Findings
pub mod Numbered
