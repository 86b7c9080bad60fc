mod Named
mod SealDigits
