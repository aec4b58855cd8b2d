pub mod Clip
pub mod Promises
pub mod Call
pub mod Passes
pub mod Told
