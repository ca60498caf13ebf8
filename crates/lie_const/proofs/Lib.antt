pub mod SumLemmas
pub mod Triples
pub mod Decisions
pub mod Norms
pub mod PlaceLemmas
pub mod ForcedLemmas
pub mod Unique
pub mod StringLemmas
pub mod SpecialLemmas
pub mod PutLemmas
pub mod FillLemmas
pub mod Kept
pub mod FoundRoots
pub mod ChainLemmas
pub mod TermLemmas
pub mod ListedTerms
pub mod SameTerms
pub mod OneAnswer
pub mod PartLemmas
pub mod TableTest
mod PairExamples
mod WorkedExamples
