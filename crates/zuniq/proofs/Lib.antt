pub mod Basics
pub mod Ranges
pub mod Codec
pub mod Zeros
pub mod Numbers
