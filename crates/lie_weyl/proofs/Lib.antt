pub mod Words
pub mod Linearity
pub mod Signs
pub mod ExchangeLemmas
pub mod LengthLemmas
pub mod DescentLemmas
pub mod HeightSigns
pub mod HeightSums
pub mod DescentRuns
pub mod GreedyLemmas
pub mod ElementLemmas
pub mod ImageLemmas
pub mod OrderLemmas
mod WorkedExamples
