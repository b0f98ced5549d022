pub mod Positions
pub mod Growth
pub mod Texts
pub mod Ends
pub mod Told
mod LawsCuts
mod LawsOneRun
mod LawsPrinting
mod LawsSerial
mod LawsShown
