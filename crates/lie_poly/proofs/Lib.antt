pub mod TermLemmas
pub mod MergeLemmas
pub mod ProductLemmas
pub mod SearchLemmas
pub mod DifferenceLemmas
pub mod EvaluationLemmas
