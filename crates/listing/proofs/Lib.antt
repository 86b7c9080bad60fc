mod Subkeys
mod Requests
mod Hex
mod Following
