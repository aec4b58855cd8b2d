pub mod Floats
pub mod Merge
pub mod ChiError
pub mod Told
pub mod Laws
