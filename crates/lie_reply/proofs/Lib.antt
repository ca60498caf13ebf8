pub mod RootsLemmas
pub mod WeylLemmas
pub mod ConstantLemmas
pub mod TextLemmas
pub mod FormLemmas
pub mod OneFormText
pub mod RowLemmas
