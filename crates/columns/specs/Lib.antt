pub mod Columns
pub mod Turning
