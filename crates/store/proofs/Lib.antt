pub mod Rotations
pub mod Positions
pub mod Steps
