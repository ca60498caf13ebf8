use Rattle.std.proofs.Common.{[], ◌∷◌, replicate, sym, ap, ◌∙◌, subst}
use Rattle.std.proofs.lemmas.List.{take-replicate}
use Rattle.lie_letters.specs.Entries.{ones}
use Rattle.lie_letters.specs.Spelled.{JoinedSpelled}
use Rattle.lie_letters.specs.declared.letter.Letter.TheVariants.{H}
use Rattle.lie_letters.proofs.TorusLemmas.{ones_joined}
use Rattle.lie_letters.proofs.torus.Torus.one.Goals as goal

pub returns-clause-entries : goal.returns-clause-entries
returns-clause-entries c = take-replicate c.args.d 8 c.one_of.result c.requires.at_most_eight ∙ ap (replicate c.args.d) c.one_of.ensures

pub returns-clause-joined : goal.returns-clause-joined
returns-clause-joined c = λ f e d.
    subst (λ t. JoinedSpelled f (H t ∷ []) []) (ap ones d ∙ sym (returns-clause-entries c)) (ones_joined f)
