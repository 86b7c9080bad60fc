pub mod Suites
pub mod Calls
pub mod Values
pub mod Sheets
