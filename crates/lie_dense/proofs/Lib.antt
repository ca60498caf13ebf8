pub mod RowLemmas
pub mod FlatLemmas
pub mod StepLemmas
