pub mod Demand3
pub mod Answers
pub mod Former
pub mod Cases
pub mod Unlisted
