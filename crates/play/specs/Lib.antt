pub mod Plays
pub mod Steps
pub mod Takes
