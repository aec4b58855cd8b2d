pub mod Map
pub mod Range
pub mod Lookup
pub mod Search
pub mod Told
