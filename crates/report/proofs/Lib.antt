pub mod Crossed
pub mod Lined
pub mod Tables
pub mod Verdicts
pub mod OfKind
