pub mod Refusals
pub mod Checks
pub mod Told
