pub mod Loads
pub mod Agreements
pub mod WholeLines
pub mod Later
pub mod States
pub mod PairsOnce
pub mod PairsHeld
pub mod Places
pub mod Lights
mod Found
mod Known
mod Tables
mod Scanned
mod Truths
mod Written
