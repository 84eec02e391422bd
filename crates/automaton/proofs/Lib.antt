pub mod Codes
pub mod Rings
pub mod Lookups
pub mod Passes
pub mod VoicesInRange
pub mod Windows
pub mod Steps
pub mod Parts
