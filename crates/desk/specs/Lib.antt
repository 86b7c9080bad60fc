pub mod Hands
pub mod Taking
pub mod Endings
pub mod Desks
