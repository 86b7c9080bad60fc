pub mod Subkeys
mod Sealed
pub mod Apart
