pub mod Tree
pub mod Fields
pub mod Documents
pub mod Lines
pub mod Walk
