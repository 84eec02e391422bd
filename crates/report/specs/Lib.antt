pub mod Texts
pub mod ReportLines
pub mod Finds
pub mod Reports
