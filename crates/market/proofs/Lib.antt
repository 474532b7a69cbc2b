pub mod Orders
pub mod Rows
pub mod Held
pub mod Applied
mod Computed
