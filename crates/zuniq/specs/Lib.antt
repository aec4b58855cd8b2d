pub mod Cells
pub mod Codec
pub mod Told
