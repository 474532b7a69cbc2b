pub mod Codes
pub mod Legs
pub mod Numbers
pub mod Records
pub mod Refusals
pub mod Words
