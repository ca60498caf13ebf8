use Rattle.std.proofs.Common.{◌≡◌, suc, ◌-◌, ◌<◌, sym, ap, subst, ◌∙◌, arith, length, get_or, pos, []}
use Rattle.std.proofs.lemmas.List.{get_or_default}
use Rattle.lie_datum.specs.RootDatum.{IsWithin, simple}
use Rattle.lie_datum.specs.RootList.{IsNumber, root_of}
use Rattle.lie_datum.proofs.SignedRoots.{root_is}
use Rattle.lie_weyl.specs.WeylElement.{Spells, moved}
use Rattle.lie_weyl.proofs.Words.{lengths}
use Rattle.lie_weyl.proofs.ImageLemmas.{spells_at, spells_rank, read_at, coeffs_more}
use Rattle.lie_weyl.proofs.weyl.Weyl.vectors.Goals as goal

pub coeffs-requires : goal.coeffs-requires
coeffs-requires c =
    let d = c.args.datum.now in
    let a = c.self.inside in
    let k = c.loop-k.k in
    let t = c.loop-k-test.true in
    let low = c.self.invariant.count in
    let word = c.requires in
    let n = (spells_at d a.l a.images low c.self.invariant.places word.0 (subst (Spells d word.0) (sym c.self.view_is) word.1) k t).number in
    subst (IsNumber d) (sym (read_at a.images k _ c.self.invariant.places (omega (arith, t, low)))) n

pub loop-k-preserved : goal.loop-k-preserved
loop-k-preserved c =
    let d = c.args.datum.now in
    let a = c.self.inside in
    let k = c.loop-k.k in
    let t = c.loop-k-test.true in
    let low = c.self.invariant.count in
    let word = c.requires in
    let n = (spells_at d a.l a.images low c.self.invariant.places word.0 (subst (Spells d word.0) (sym c.self.view_is) word.1) k t).number in
    let e = c.coeffs.ensures ∙ ap (λ z. (root_of d z).coeffs) (read_at a.images k _ c.self.invariant.places (omega (arith, t, low))) in
    let root = root_is d c.loaded.ensures (get_or a.images k (pos 1)) n in
    let small = (c.loaded.ensures.axioms.finite.small _ root).0 in
    coeffs_more d a.images c.loop-k.vectors c.coeffs.result.now k (omega (arith, t, low)) (ap length e ∙ (lengths d c.loaded.ensures _ root).0) (subst (IsWithin 100) (sym e) small) e c.loop-k.invariant

pub returns-clause-within : goal.returns-clause-within
returns-clause-within c = λ k e l. subst (IsWithin 100) (get_or_default c.loop-k.vectors k [] e l) (c.loop-k.invariant.2 k)

pub returns-clause-images : goal.returns-clause-images
returns-clause-images c = λ i w s h.
    let d = c.args.datum.now in
    let a = c.self.inside in
    let low = c.self.invariant.count in
    let t = c.loop-k-test.false in
    let g = subst (Spells d w) (sym c.self.view_is) h in
    let r = spells_rank d a.l a.images low c.self.invariant.places w g in
    let p = s.0 in
    let q = s.1 in
    let e : suc (i - 1) ≡ i = omega (arith, p) in
    let inside : i - 1 < a.l = omega (arith, p, q, r) in
    c.loop-k.invariant.3 (i - 1) (omega (arith, inside, t))
    ∙ ap (λ z. z.coeffs) ((spells_at d a.l a.images low c.self.invariant.places w g (i - 1) inside).root ∙ ap (λ n. moved d.base w (simple n)) e)
