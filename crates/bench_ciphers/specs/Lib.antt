pub mod Zero
pub mod Counted
