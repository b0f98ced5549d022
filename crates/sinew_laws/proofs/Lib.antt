pub mod StateLemmas
mod Positions
pub mod StateRows
pub mod TupleLemmas
pub mod CommitLemmas
pub mod RunLemmas
pub mod EndInputs
pub mod EndLemmas
pub mod MarkLemmas
pub mod NameLemmas
pub mod KindLemmas
pub mod AcrossKinds
