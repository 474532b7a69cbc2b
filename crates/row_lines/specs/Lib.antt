pub mod Codes
pub mod Hex
pub mod Instruments
pub mod Parts
pub mod Rows
