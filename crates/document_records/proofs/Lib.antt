pub mod CatalogNumbers
pub mod StoredValues
pub mod StoredFields
mod DocumentFields
pub mod WholeDocuments
