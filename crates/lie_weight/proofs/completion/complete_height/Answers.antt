use Rattle.std.proofs.Common.{◌≡◌, ◌<◌, ◌+◌, ◌*◌, ℕ, ℤ, length, subst, sym, ap, ◌∙◌, arith, rules, unsigned_abs}
use Rattle.std.proofs.lemmas.Int.{to_z-of_z}
use mir.Val.{SFits}
use mir.Syntax.{w32}
use Rattle.lie_datum.specs.Numbers.{number_at}
use Rattle.lie_datum.proofs.NumberLemmas.{numbered_at, IsAtPlace}
use Rattle.lie_const.specs.Modules.{Module}
use Rattle.lie_const.specs.Signs.{eta_of}
use Rattle.lie_weight.specs.Conjugation.{absolute_height, IsLowering}
use Rattle.lie_weight.specs.Completion.{Extends, IsPartly, AreAllFactors}
use Rattle.lie_weight.proofs.CompletionLemmas.{partly_at, partly_after, partly_skip, partly_level, extends_trans}
use Rattle.lie_weight.proofs.completion.complete_height.Goals as goal
use Rattle.lie_weight.proofs.completion.complete_height.Goals.{After-at-r, then-is_past+then-unsigned_abs-height+in_ok-complete_root, else-is_past, else-is_past-via-then-is_past+else-unsigned_abs-height, else-is_past-via-else-is_past}

at_is : (c : After-at-r) → IsAtPlace c.args.datum.now c.loop-place.place c.at-r.result
at_is c =
    let inside : c.loop-place.place < 2 * length c.args.datum.now.positive = let t = c.loop-place-test.true in let m = c.m-positive.ensures.value in omega (arith, t, m) in
    subst (IsAtPlace c.args.datum.now c.loop-place.place) (sym (c.at-r.ensures ∙ ap (λ m. number_at m c.loop-place.place) c.m-positive.ensures.value)) (numbered_at c.args.datum.now c.loop-place.place inside)

pub complete_root-requires-clause-partly : goal.complete_root-requires-clause-partly
complete_root-requires-clause-partly c =
    let d = c.args.datum.now in
    let a = at_is (goal.at.complete_root-requires-clause-partly c).After-at-r in
    let f : SFits w32 c.height.result = search rules in
    let high : absolute_height d c.at-r.result ≡ c.args.height = sym (c.unsigned_abs.ensures.value ∙ ap unsigned_abs (to_z-of_z w32 c.height.result f ∙ c.height.ensures)) ∙ c.if-unsigned_abs-height.true in
    partly_at d (eta_of c.args.signs.now) c.args.height c.loop-place.place c.loop-place.space c.at-r.result high a.place c.loop-place.invariant.0

pub loop-place-preserved : goal.loop-place-preserved
loop-place-preserved c =
    let d = c.args.datum.now in
    let eta = eta_of c.args.signs.now in
    let r = c.at-r.result in
    let h = c.args.height in
    let p = c.loop-place.place in
    let v = c.loop-place.space in
    let a = at_is (goal.at.loop-place-preserved c).After-at-r in
    let inv = c.loop-place.invariant in
    elim c.if-is_past.branch [
      | then-is_past+then-unsigned_abs-height+in_ok-complete_root w ↦
          let f : SFits w32 w.height.result = search rules in
          let high : absolute_height d r ≡ h = sym (w.unsigned_abs.ensures.value ∙ ap unsigned_abs (to_z-of_z w32 w.height.result f ∙ w.height.ensures)) ∙ w.if-unsigned_abs-height.true in
          let e = w.in_ok-complete_root.ensures in
          subst (λ (m : Module). IsPartly d eta h (p + 1) m × AreAllFactors d m c.args.factors.now × Extends d c.args.space.now m) (sym w.space-is)
          (partly_after d eta h p w.complete_root.new.space r high a.place e.partly, e.factors, extends_trans d c.args.space.now v w.complete_root.new.space inv.2 e.extends)
      | else-is_past w ↦
          let none : absolute_height d r ≡ h → (i : ℕ) (s : ℤ) → ¬ IsLowering d i r s =
          elim w.else-is_past.branch [
            | else-is_past-via-then-is_past+else-unsigned_abs-height x ↦ λ high.
                (let f : SFits w32 x.height.result = search rules in
                let same = x.unsigned_abs.ensures.value ∙ ap unsigned_abs (to_z-of_z w32 x.height.result f ∙ x.height.ensures) ∙ high in
                absurd (x.if-unsigned_abs-height.false same))
            | else-is_past-via-else-is_past x ↦ λ high i s l.
                (let t = c.is_past.ensures.1 l.past in let n = x.if-is_past.false in absurd (cc))
          ] in
          subst (λ (m : Module). IsPartly d eta h (p + 1) m × AreAllFactors d m c.args.factors.now × Extends d c.args.space.now m) (sym w.space-is)
          (partly_skip d eta h p v r a.number a.place none inv.0, inv.1, inv.2)
    ]

pub returns-clause-partly : goal.returns-clause-partly
returns-clause-partly c =
    let t = c.loop-place-test.false in
    let m = c.m-positive.ensures.value in
    partly_level c.args.datum.now (eta_of c.args.signs.now) c.args.height c.loop-place.place c.loop-place.space (omega (arith, t, m)) c.loop-place.invariant.0
