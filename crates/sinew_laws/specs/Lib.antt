pub mod States
pub mod Commits
pub mod Runs
pub mod Ends
pub mod Names
pub mod Kinds
pub mod Tuples
