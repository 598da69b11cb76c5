pub mod Code
pub mod Fits
pub mod Inside
pub mod Systems
pub mod Tables
