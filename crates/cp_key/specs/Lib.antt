pub mod Key
pub mod Known
pub mod Numbers
pub mod Room
