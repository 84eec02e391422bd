pub mod Collected
pub mod LineCuts
pub mod Rows
pub mod Utf8
pub mod WordsAt
pub mod SaidBack
