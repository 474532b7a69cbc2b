pub mod Refusals
pub mod Kinds
pub mod Views
pub mod Laws
