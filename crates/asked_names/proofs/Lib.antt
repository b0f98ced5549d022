pub mod Loaded
pub mod Spelled
