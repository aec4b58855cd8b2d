pub mod Lines
pub mod Passing
pub mod Printing
