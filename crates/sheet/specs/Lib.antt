pub mod Sheets
pub mod Names
pub mod Writing
