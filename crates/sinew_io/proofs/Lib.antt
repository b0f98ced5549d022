pub mod Told
pub mod UnderWay
pub mod Keeping
pub mod Listed
