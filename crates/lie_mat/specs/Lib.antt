pub mod Wide
pub mod Columns
pub mod Kept
pub mod Parts
pub mod ColumnLemmas
pub mod WriteLemmas
pub mod PartLemmas
