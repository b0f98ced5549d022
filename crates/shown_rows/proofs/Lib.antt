mod Below
mod Followed
