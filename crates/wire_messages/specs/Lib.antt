pub mod Forms
pub mod Frames
pub mod Kinds
pub mod Rules
pub mod Tails
