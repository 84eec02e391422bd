pub mod Commands
pub mod Lines
pub mod Outcomes
pub mod Replies
pub mod Requests
pub mod Scripts
pub mod Told
pub mod ShownArguments
