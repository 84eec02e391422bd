pub mod Classes
pub mod Spelt
pub mod WorkedLog
