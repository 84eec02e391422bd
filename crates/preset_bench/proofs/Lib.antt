pub mod Counts
pub mod Filled
