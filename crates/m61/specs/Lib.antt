pub mod Mersenne
