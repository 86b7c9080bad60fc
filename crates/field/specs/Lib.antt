pub mod Model
pub mod Laws
pub mod WeightedSums
pub mod Modular
