use Rattle.lie_letters.proofs.ChainLemmas.{chain_of, joined_by_chain}
use Rattle.lie_letters.proofs.laws.chains_are_lists.Goals as goal

pub returns : goal.returns
returns c = λ f u v. (chain_of, λ c. joined_by_chain u c.0 v c.1)
