pub mod Benches
pub mod Scores
