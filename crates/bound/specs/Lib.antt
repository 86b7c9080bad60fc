pub mod Counting
pub mod Bound
