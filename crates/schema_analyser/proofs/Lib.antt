pub mod Differing
pub mod Shown
pub mod Taken
pub mod Counted
