pub mod Zeroed
pub mod Judged
pub mod Loads
pub mod OfKind
pub mod Performed
pub mod Sessions
pub mod Strips
