pub mod Alike
pub mod Firsts
pub mod Tails
pub mod Tests
pub mod Verdicts
