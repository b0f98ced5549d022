pub mod Question
pub mod Plans
pub mod Runs
