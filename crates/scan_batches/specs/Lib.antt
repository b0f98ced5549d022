pub mod Filled
pub mod Scans
pub mod Reading
