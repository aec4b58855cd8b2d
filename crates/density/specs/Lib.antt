pub mod Densities
pub mod Told
