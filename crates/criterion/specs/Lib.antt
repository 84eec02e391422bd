pub mod Balance
pub mod Search
pub mod ChargeStrips
pub mod Answers
pub mod Laws
pub mod Labelled
