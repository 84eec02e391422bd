pub mod Decimals
pub mod Groups
pub mod Kinds
pub mod Numbers
pub mod Ranges
pub mod Residues
