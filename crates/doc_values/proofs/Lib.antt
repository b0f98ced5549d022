pub mod Places
pub mod Written
pub mod OneLine
pub mod Maps
pub mod Ordered
pub mod Behind
pub mod Packs
pub mod Placed
