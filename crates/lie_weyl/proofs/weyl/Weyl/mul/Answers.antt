use Rattle.std.proofs.Common.{◌++◌, ◌≡◌, ℕ, List, sym, ap, subst, ◌∙◌, arith, take}
use Rattle.lie_datum.specs.RootList.{IsNumber, root_of}
use Rattle.lie_weyl.specs.WeylElement.{moved, Spells}
use Rattle.lie_weyl.proofs.Words.{is_word, are_letters, IsWord-append, moved-append}
use Rattle.lie_weyl.proofs.ImageLemmas.{spells_at, spells_rank, spells_from, filled_none, filled_more, filled_padded, read_at}
use Rattle.lie_weyl.proofs.weyl.Weyl.mul.Goals as goal

pub loop-k-init : goal.loop-k-init
loop-k-init c = filled_none c.args.datum.now (λ r s. (w : List ℕ) → Spells c.args.datum.now w c.args.self.now → s ≡ moved c.args.datum.now.base w r) c.b.inside.images c.b.invariant.places

pub image-requires-clause-number : goal.image-requires-clause-number
image-requires-clause-number c =
    let d = c.args.datum.now in
    let a = c.b.inside in
    let k = c.loop-k.k in
    let t = c.loop-k-test.true in
    let low = c.b.invariant.count in
    let word = c.requires.b in
    let n = (spells_at d a.l a.images low c.b.invariant.places word.0 (subst (Spells d word.0) (sym c.b.view_is) word.1) k t).number in
    subst (IsNumber d) (sym (c.loop-k.invariant.rest k (omega arith)) ∙ sym (read_at c.loop-k.images k _ c.loop-k.invariant.places (omega (arith, t, low)))) n

pub loop-k-preserved : goal.loop-k-preserved
loop-k-preserved c =
    let d = c.args.datum.now in
    let a = c.b.inside in
    let k = c.loop-k.k in
    let t = c.loop-k-test.true in
    let low = c.b.invariant.count in
    let here = read_at c.loop-k.images k _ c.loop-k.invariant.places (omega (arith, t, low)) ∙ c.loop-k.invariant.rest k (omega arith) in
    filled_more d (λ r s. (w : List ℕ) → Spells d w c.args.self.now → s ≡ moved d.base w r) a.images c.loop-k.images k c.image.result (omega (arith, t, low)) c.loop-k.invariant
    (record { number = c.image.ensures.number; step = λ w h. c.image.ensures.image w h ∙ ap (λ z. moved d.base w (root_of d z)) here })

pub invariant_of-result : goal.invariant_of-result
invariant_of-result c =
    let d = c.args.datum.now in
    let a = c.b.inside in
    filled_padded d (λ r s. (w : List ℕ) → Spells d w c.args.self.now → s ≡ moved d.base w r) a.images c.loop-k.images a.l c.loop-k.k c.b.invariant c.loop-k-test.false c.loop-k.auto.k-end c.loop-k.invariant

pub returns-clause-word : goal.returns-clause-word
returns-clause-word c w v g h =
    let d = c.args.datum.now in
    let a = c.b.inside in
    let low = c.b.invariant.count in
    let t = c.loop-k-test.false in
    let s : Spells d v (take a.l a.images) = subst (Spells d v) (sym c.b.view_is) h in
    spells_from d a.l c.loop-k.images low c.loop-k.invariant.places _ (are_letters d.base _ (IsWord-append d.base w v (is_word d.base w g.letters) (is_word d.base v h.letters)))
    (spells_rank d a.l a.images low c.b.invariant.places v s)
    (λ j q. (let step = c.loop-k.invariant.done j (omega (arith, q, t)) in record {
      number = step.number;
      root = step.step w g ∙ ap (moved d.base w) (spells_at d a.l a.images low c.b.invariant.places v s j q).root ∙ sym (moved-append d.base w v _);
    }))

pub returns-clause-element : goal.returns-clause-element
returns-clause-element c = (c.requires.element.0 ++ c.requires.b.0, returns-clause-word c c.requires.element.0 c.requires.b.0 c.requires.element.1 c.requires.b.1)
