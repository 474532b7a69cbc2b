pub mod Symbols
pub mod Effects
pub mod Aims
pub mod Market
pub mod Laws
pub mod Legs
pub mod Examples
