pub mod DigitSums
pub mod Integers
pub mod Sums
pub mod Wraps
