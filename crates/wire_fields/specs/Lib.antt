pub mod Codes
pub mod Symbols
