pub mod Cells
pub mod Filtered
pub mod Pages
pub mod Seen
pub mod Inside
pub mod Walked
pub mod Laws
