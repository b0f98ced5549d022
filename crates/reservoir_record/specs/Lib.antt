pub mod Spelling
pub mod Walking
pub mod Words
pub mod Editing
pub mod Finding
pub mod Laws
