pub mod Frames
pub mod Totals
