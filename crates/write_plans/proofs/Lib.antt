pub mod Items
pub mod Folds
pub mod Front
pub mod Back
pub mod Added
