pub mod Moving
pub mod Widths
pub mod Told
