mod Removed
mod Refused
