pub mod Ranges
pub mod Coverage
pub mod Promises
pub mod Told
