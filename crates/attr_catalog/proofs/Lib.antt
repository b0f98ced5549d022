pub mod Positions
pub mod NamesKept
pub mod Used
pub mod Kept
pub mod OneMore
pub mod Appended
pub mod Cut
