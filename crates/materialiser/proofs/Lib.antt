mod First
mod Marks
mod Rearranged
mod Settled
