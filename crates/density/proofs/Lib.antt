pub mod Densities
