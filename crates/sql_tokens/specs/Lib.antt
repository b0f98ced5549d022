pub mod Forms
pub mod Tokens
pub mod Scan
pub mod Values
pub mod Ends
