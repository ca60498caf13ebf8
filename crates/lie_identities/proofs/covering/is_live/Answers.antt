use Rattle.std.proofs.Common.{◌≡◌, ℕ, sym, ap, subst, ◌∙◌, arith, refl, rules}
use Rattle.lie_datum.proofs.NumberLemmas.{place_within}
use Rattle.lie_const.specs.Modules.{divided_power, top}
use Rattle.lie_identities.specs.CoverParts.{IsLiveColumn}
use Rattle.lie_identities.proofs.CoverLemmas.{none_live, not_live, fails_more}
use Rattle.lie_identities.proofs.covering.is_live.Goals as goal

pub returns-then-top-eq0 : goal.returns-then-top-eq0
returns-then-top-eq0 c =
    let e : top c.args.space.now c.args.r ≡ 0 = let t = c.if-top-eq0.true in let v = c.top.ensures.value in omega (arith, t, v) in
    (λ f. absurd (cc), λ h. absurd (none_live c.args.field.now c.args.space.now c.args.r e h))

pub power-matrix-requires-clause-r : goal.power-matrix-requires-clause-r
power-matrix-requires-clause-r c =
    let w = (place_within c.args.datum.now c.args.r c.requires.number).1 in
    let p = c.requires.space.positive in
    omega (arith, w, p)

pub loop-col-preserved : goal.loop-col-preserved
loop-col-preserved c =
    let f = c.args.field.now in
    fails_more (λ (col : ℕ). IsLiveColumn f (divided_power c.args.space.now c.args.r 1) col) c.loop-col.col c.loop-col.invariant
    (λ h. (let t = c.is_live_column.ensures.1 (subst (λ M. IsLiveColumn f M c.loop-col.col) (sym c.power-matrix.ensures.value) h) in let g = c.if-is_live_column.false in cc))

pub returns : goal.returns
returns c =
    let v = c.args.space.now in
    let height = ap (λ M. M.height) (sym c.power-matrix.ensures.value) ∙ c.power-matrix.ensures.square.height in (
      λ f. absurd (cc),
      λ h. absurd (not_live c.args.field.now v c.args.r (divided_power v c.args.r 1) refl height
          (λ col l. c.loop-col.invariant col (let t = c.loop-col-test.false in let e = c.loop-col.auto.col-end in let n = c.dim-col-end.ensures.value in omega (arith, l, t, e, n))) h),
    )
