pub mod Lines
pub mod Steps
