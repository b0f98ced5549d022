pub mod Different
pub mod Tally
pub mod Survey
pub mod Choice
