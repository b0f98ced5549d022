pub mod History
pub mod Order
pub mod Shows
pub mod Changes
pub mod Inside
pub mod Stored
pub mod Touched
