pub mod Answers
pub mod BrokenOff
pub mod Reading
pub mod Prefix
pub mod MapText
pub mod Buffered
