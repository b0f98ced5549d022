pub mod Attribute
pub mod Catalog
pub mod Inside
pub mod Paths
