pub mod Limits
pub mod Pairs
pub mod StoredValue
pub mod StoredDocument
pub mod ReadBack
pub mod Parts
pub mod Laws
