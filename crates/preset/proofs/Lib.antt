mod CentsSent
pub mod Faithful
pub mod Fronts
pub mod Heads
pub mod Loading
pub mod NumberLaws
pub mod Outcomes
pub mod PresetLaws
pub mod Reading
pub mod Scanning
pub mod Spelling
pub mod Turns
