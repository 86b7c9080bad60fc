mod Framed
pub mod Back
pub mod Named
