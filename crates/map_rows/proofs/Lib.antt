pub mod OverRows
