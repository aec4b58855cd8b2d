pub mod Protected
