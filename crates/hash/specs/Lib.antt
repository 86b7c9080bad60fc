pub mod Texts
pub mod Hash
pub mod Steps
