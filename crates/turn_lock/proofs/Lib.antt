pub mod Lists
pub mod Seats
pub mod Numbers
pub mod Turns
pub mod Ends
