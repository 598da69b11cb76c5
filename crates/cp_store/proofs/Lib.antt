pub mod Alike
pub mod Bindings
pub mod Fitting
pub mod Members
pub mod Opened
pub mod ReadBack
pub mod Reaches
pub mod Widths
