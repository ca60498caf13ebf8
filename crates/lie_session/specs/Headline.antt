-- The word problem of a loaded group, and the forms of matrices on a covering module.
-- Source: Cohen, Murray, Taylor, Computing in groups of Lie type, 1 (the word problem, and passing between words and matrices).
-- Own: the statement.
use Rattle.lie_session.specs.Printed.{FormsAreJoined, EqualRepliesDecideWords, SameDecidesWords}
use Rattle.lie_session.specs.Reduced.{BlocksAreCovering, MatricesAreReduced}

-- for every script that loads a group: each word prints a form that is joined to it; two words print the same bytes exactly if a chain of the relations
-- joins them, and `same` answers `yes` exactly there; on a covering module, and on no other, a matrix is reduced to the one form whose word has it, or is
-- refused exactly where no word has it
pub record Headline : Type 0 where
  pub forms : FormsAreJoined
  pub words : EqualRepliesDecideWords
  pub same : SameDecidesWords
  pub blocks : BlocksAreCovering
  pub reductions : MatricesAreReduced
