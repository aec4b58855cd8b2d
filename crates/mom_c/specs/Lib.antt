pub mod Answers
pub mod Ingest
