pub mod LoadingLemmas
pub mod OneFrame
pub mod GroupLemmas
pub mod SameAudits
pub mod OneGroup
mod WorkedExamples
mod TorusExample
mod RankOneExample
