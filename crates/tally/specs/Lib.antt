pub mod Tally
pub mod Running
