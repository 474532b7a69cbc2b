pub mod Prices
pub mod Widths
