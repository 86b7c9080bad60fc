pub mod Numbers
pub mod Cutting
pub mod Rings
pub mod Steps
pub mod Fours
pub mod Horner
pub mod Same
