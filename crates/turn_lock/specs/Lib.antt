pub mod Which
pub mod Pass
pub mod Rule
pub mod Views
pub mod Steps
pub mod Turn
