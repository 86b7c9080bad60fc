pub mod Decided
mod TwoDigits
