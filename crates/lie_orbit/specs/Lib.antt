pub mod Weights
pub mod Lowering
pub mod Orbits
pub mod Growth
pub mod Levels
pub mod Laws
