pub mod Examples
pub mod Wide
pub mod WorkedLog
