pub mod Contents
pub mod Sides
pub use Rattle.doc_values.specs.Lent
pub mod Column
pub mod Placed
