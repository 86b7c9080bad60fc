mod Numbered
mod Texts
mod Paired
mod Hearing
