pub mod Printing
pub mod PrintingTerm
pub mod PrintingQuery
pub mod PrintingText
