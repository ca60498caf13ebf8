use Rattle.lie_letters.proofs.Products.{joined_to_letter}
use Rattle.lie_letters.proofs.laws.torus_words_are_letters.Goals as goal

pub returns : goal.returns
returns c = joined_to_letter
