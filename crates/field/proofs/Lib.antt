pub mod Modular
pub mod ModularLaws
pub mod Elements
