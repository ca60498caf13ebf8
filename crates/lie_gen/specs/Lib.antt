pub mod Draws
pub mod Demonstration
