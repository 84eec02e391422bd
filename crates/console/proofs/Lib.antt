pub mod Cuts
pub mod Digits
pub mod Encoding
pub mod Passing
pub mod ReadBack
pub mod Reading
pub mod Rows
pub mod ShownBack
