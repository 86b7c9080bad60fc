pub mod Mac
pub mod Asked
pub mod Published
