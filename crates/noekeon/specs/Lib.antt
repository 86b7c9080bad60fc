pub mod Steps
pub mod Noekeon
