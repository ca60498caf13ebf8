pub mod ElementLemmas
pub mod BoundLemmas
pub mod SortedLemmas
pub mod CarriedLemmas
pub mod EndingLemmas
pub mod ZeroLemmas
pub mod FullWordLemmas
pub mod JoinedLemmas
pub mod MoveLemmas
pub mod SplitLemmas
pub mod OrderedLemmas
pub mod PlacingLemmas
pub mod TermLemmas
pub mod DatumLemmas
pub mod GroupLemmas
pub mod WordLemmas
pub mod PartLemmas
mod WorkedExamples
pub mod FrontLemmas
pub mod PositiveLetterLemmas
pub mod RowLemmas
pub mod FormLemmas
mod FormExamples
