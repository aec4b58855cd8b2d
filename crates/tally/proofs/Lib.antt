pub mod Over
pub mod Counting
pub mod Chain
pub mod Appending
pub mod Counted
pub mod Tallies
