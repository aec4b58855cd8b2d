pub mod Mombuild
pub mod Steps
