pub mod Places
pub mod Firsts
pub mod Sorting
pub mod Comparing
pub mod WholeLines
mod Numbers
mod FirstRows
mod Unescaped
