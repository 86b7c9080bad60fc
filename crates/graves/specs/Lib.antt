pub mod Held
pub mod States
pub mod Sound
pub mod Entries
pub mod Turns
pub mod Checks
