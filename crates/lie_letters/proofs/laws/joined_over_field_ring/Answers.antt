use Rattle.lie_letters.proofs.BridgeLemmas.{IsWordOver-ring, joined_over_ring}
use Rattle.lie_letters.proofs.laws.joined_over_field_ring.Goals as goal

pub returns : goal.returns
returns c = λ f u v lawful word d. joined_over_ring f lawful u v d (IsWordOver-ring f u word)
