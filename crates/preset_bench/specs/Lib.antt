pub mod Charges
pub mod Finds
