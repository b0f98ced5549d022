pub mod Collection
pub mod Becomes
pub mod UnderWay
