pub mod Copying
pub mod Deep
pub mod Widths
pub mod Moving
pub mod Laws
