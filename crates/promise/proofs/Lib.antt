-- lists, causes, states and keys
mod Among
mod Draws
pub mod Causes
mod States
mod Keys
-- one grave's past
mod Pasts
mod Checks
-- all graves, and the theorem
mod Quiet
mod Runs
mod Opened
mod Sealed
mod Granted
mod Checked
mod Calls
pub mod Theorem
-- what the code's proofs cite
pub mod Continues
-- what the law refutes, and examples of the rules
mod Teeth
mod Examples
