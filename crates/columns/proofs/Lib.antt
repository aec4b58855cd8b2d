pub mod Layouts
pub mod Moves
pub mod Quadruples
pub mod Fours
pub mod Laid
pub mod Again
