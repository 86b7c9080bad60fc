mod Power
mod Window
mod Fours
mod Remainder
