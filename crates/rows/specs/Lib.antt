pub mod LittleEndian
pub mod Rows
pub mod Told
