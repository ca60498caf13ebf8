pub mod SignAnswers
pub mod SignParts
pub mod BraidParts
pub mod WordMatrix
pub mod BraidAnswers
pub mod OneAdjoint
pub mod EqualMatrices
pub mod WeylWeights
