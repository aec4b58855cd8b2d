pub mod Demand3
pub mod Answers
pub mod Former
pub mod Unlisted
pub mod Protected
pub mod BlankFirst
