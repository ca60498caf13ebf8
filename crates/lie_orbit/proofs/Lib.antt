pub mod WeightLemmas
pub mod ArithmeticLemmas
pub mod FallLemmas
pub mod LowersOnce
pub mod SmallSums
pub mod InsertedVectors
pub mod GrowthLemmas
pub mod OrderLemmas
pub mod OneOrbit
mod WorkedExamples
