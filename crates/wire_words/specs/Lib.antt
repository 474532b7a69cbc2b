pub mod Bytes
pub mod Dashes
pub mod Decimals
pub mod Lines
