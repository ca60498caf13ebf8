use Rattle.std.proofs.Common.{◌++◌, ◌∷◌, [], map, take, sym, ap, ◌∙◌}
use Rattle.std.proofs.lemmas.List.{map-append, take_more, take_all}
use Rattle.lie_identities.specs.Sides.{term_factor}
use Rattle.lie_identities.proofs.Appended.{appended}
use Rattle.lie_identities.proofs.sides.Side.times_terms.Goals as goal

pub loop-term-preserved : goal.loop-term-preserved
loop-term-preserved c =
    let ts = c.args.terms.now in
    let k = c.loop-term.term-index in
    let t = c.term-item.result in
    let a = c.args.self.factors.items in
    let more = ap (map term_factor) (take_more ts k t c.loop-term-test.true ∙ ap (λ z. take k ts ++ z ∷ []) (sym c.term-item.is)) ∙ map-append term_factor (take k ts) (t ∷ []) in
    c.in_ok-side.ensures ∙ appended a c.loop-term.side.factors.items (map term_factor (take k ts)) (term_factor t ∷ []) c.loop-term.invariant ∙ ap (λ l. a ++ l) (sym more)

pub returns : goal.returns
returns c =
    let a = c.args.self.factors.items in
    c.loop-term.invariant ∙ ap (λ l. a ++ map term_factor l) (take_all c.loop-term.term-index c.args.terms.now c.loop-term-test.false)
