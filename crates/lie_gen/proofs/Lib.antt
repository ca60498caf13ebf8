pub mod DrawLemmas
pub mod LetterLemmas
