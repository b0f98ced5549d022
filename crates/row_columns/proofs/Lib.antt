mod Texts
mod Numbered
