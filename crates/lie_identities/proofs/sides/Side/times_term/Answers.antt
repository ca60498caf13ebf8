use Rattle.std.proofs.Common.{◌≡◌, ◌++◌, ◌∷◌, [], IfOk, subst}
use Rattle.lie_poly.specs.Polynomials.{Polynomial}
use Rattle.lie_identities.specs.AuditRelations.{RootElement}
use Rattle.lie_identities.proofs.MonomialLemmas.{read-term}
use Rattle.lie_identities.proofs.sides.Side.times_term.Goals as goal

pub returns : goal.returns
returns c =
    let t = c.args.term in
    subst (λ (f : Polynomial). IfOk c.times_root.result (λ s. s.factors.items ≡ c.args.self.factors.items ++ RootElement t.root f ∷ []))
    (read-term t c.sign.result c.from.result c.from-2.result c.requires c.sign.ensures.value c.sign.ensures.unit c.from.ensures c.from-2.ensures)
    c.times_root.ensures
