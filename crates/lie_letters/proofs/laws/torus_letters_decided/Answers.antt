use Rattle.lie_letters.proofs.Products.{torus_letters_decide}
use Rattle.lie_letters.proofs.laws.torus_letters_decided.Goals as goal

pub returns : goal.returns
returns c = torus_letters_decide
