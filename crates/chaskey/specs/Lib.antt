pub mod Order
pub mod Chaskey
