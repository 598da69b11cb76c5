pub mod Admitting
pub mod Gates
pub mod LettingIn
pub mod MonitorNumbers
