pub mod Answers
pub mod Judging
pub mod Scripts
pub mod Playing
