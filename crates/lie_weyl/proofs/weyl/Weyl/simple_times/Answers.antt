use Rattle.std.proofs.Common.{◌∷◌, ◌≡◌, sym, ap, subst, ◌∙◌, arith, take}
use Rattle.std.proofs.lemmas.List.Elements.{All-cons}
use Rattle.lie_datum.specs.RootDatum.{reflected, IsSimpleIndex}
use Rattle.lie_datum.specs.RootList.{IsNumber, root_of}
use Rattle.lie_weyl.specs.WeylElement.{Spells}
use Rattle.lie_weyl.proofs.ImageLemmas.{spells_at, spells_rank, spells_from, filled_none, filled_more, filled_padded, read_at}
use Rattle.lie_weyl.proofs.weyl.Weyl.simple_times.Goals as goal

pub loop-k-init : goal.loop-k-init
loop-k-init c = filled_none c.args.datum.now (λ r s. s ≡ reflected c.args.datum.now.base c.args.i r) c.self.inside.images c.self.invariant.places

pub reflect-requires-clause-number : goal.reflect-requires-clause-number
reflect-requires-clause-number c =
    let d = c.args.datum.now in
    let a = c.self.inside in
    let k = c.loop-k.k in
    let t = c.loop-k-test.true in
    let low = c.self.invariant.count in
    let word = c.requires.element in
    let n = (spells_at d a.l a.images low c.self.invariant.places word.0 (subst (Spells d word.0) (sym c.self.view_is) word.1) k t).number in
    subst (IsNumber d) (sym (c.loop-k.invariant.rest k (omega arith)) ∙ sym (read_at c.loop-k.images k _ c.loop-k.invariant.places (omega (arith, t, low)))) n

pub loop-k-preserved : goal.loop-k-preserved
loop-k-preserved c =
    let d = c.args.datum.now in
    let a = c.self.inside in
    let k = c.loop-k.k in
    let t = c.loop-k-test.true in
    let low = c.self.invariant.count in
    let here = read_at c.loop-k.images k _ c.loop-k.invariant.places (omega (arith, t, low)) ∙ c.loop-k.invariant.rest k (omega arith) in
    filled_more d (λ r s. s ≡ reflected d.base c.args.i r) a.images c.loop-k.images k c.reflect.result (omega (arith, t, low)) c.loop-k.invariant
    (record { number = c.reflect.ensures.number; step = c.reflect.ensures.root ∙ ap (λ z. reflected d.base c.args.i (root_of d z)) here })

pub invariant_of-result : goal.invariant_of-result
invariant_of-result c =
    let d = c.args.datum.now in
    let a = c.self.inside in
    filled_padded d (λ r s. s ≡ reflected d.base c.args.i r) a.images c.loop-k.images a.l c.loop-k.k c.self.invariant c.loop-k-test.false c.loop-k.auto.k-end c.loop-k.invariant

pub returns-clause-word : goal.returns-clause-word
returns-clause-word c w h =
    let d = c.args.datum.now in
    let a = c.self.inside in
    let low = c.self.invariant.count in
    let t = c.loop-k-test.false in
    let s : Spells d w (take a.l a.images) = subst (Spells d w) (sym c.self.view_is) h in
    spells_from d a.l c.loop-k.images low c.loop-k.invariant.places _ (All-cons (IsSimpleIndex d.base) c.args.i w c.requires.index s.letters)
    (spells_rank d a.l a.images low c.self.invariant.places w s)
    (λ j q. (let step = c.loop-k.invariant.done j (omega (arith, q, t)) in record {
      number = step.number;
      root = step.step ∙ ap (reflected d.base c.args.i) (spells_at d a.l a.images low c.self.invariant.places w s j q).root;
    }))

pub returns-clause-element : goal.returns-clause-element
returns-clause-element c = (c.args.i ∷ c.requires.element.0, returns-clause-word c c.requires.element.0 c.requires.element.1)
