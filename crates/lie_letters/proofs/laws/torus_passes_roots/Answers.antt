use Rattle.lie_letters.proofs.RootLetterLemmas.{passing_joined}
use Rattle.lie_letters.proofs.laws.torus_passes_roots.Goals as goal

pub returns : goal.returns
returns c = λ f t r a h x. passing_joined f t r a h.1 h.0 x.0 x.1
