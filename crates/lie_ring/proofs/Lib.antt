pub mod MatrixAlgebraLemmas
