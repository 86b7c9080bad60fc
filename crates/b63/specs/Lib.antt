pub mod Binary
pub mod Product
pub mod Bit
pub mod Xor
pub mod Rows
pub mod ByZ
