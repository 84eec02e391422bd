pub mod Words
pub mod Tables
pub mod Meanings
pub mod Ranges
pub mod Making
pub mod Lookups
pub mod Shown
pub mod Meant
