use Rattle.std.proofs.Common.{◌≡◌, ◌*◌, ◌-◌, ◌%◌, refl, sym, ap, ◌∙◌, arith, rules, inl, inr}
use Rattle.std.specs.Prelude.{ℤ, pos, negsuc}
use Rattle.std.proofs.lemmas.Int.{to_z-of_z}
use Rattle.std.specs.Int.{int_rem_euclid, IsNonNegative, w128}
use lib.IntN.{nat_abs}
use mir.Val.{SFits, to_z, of_z}
use mathlib.Core.Logic.{⊎_elim}
use Rattle.lie_field.specs.Quotient.{order, power}
use Rattle.lie_field.specs.Algebra.FieldTest.{is_lawful}
use Rattle.lie_field.proofs.Exponents.{power_read_at, generator_above, zero_power, power_int_below}
use Rattle.lie_field.proofs.fields.Field.pow.Goals as goal
use Rattle.lie_field.proofs.fields.Field.pow.Goals.{then-e-eq0, else-e-eq0}

pub returns-then-a-eq0-clause-value : goal.returns-then-a-eq0-clause-value
returns-then-a-eq0-clause-value c =
    let f = c.args.self.now in
    let zero_is : 0 ≡ c.args.a = sym c.if-a-eq0.true ∙ c.a.view_is in
    let defined = ⊎_elim (λ nz. absurd (nz (sym zero_is))) (λ h. h) c.requires.defined in
    rw (← zero_is)
    (zero_power f.given (is_lawful f) c.args.e c.if-e-eq0.result defined
    (elim c.if-e-eq0.branch [ then-e-eq0 w ↦ inl (search rules, w.result-is) | else-e-eq0 w ↦ inr (search rules, w.result-is) ]))

pub returns-then-a-eq0-clause-below : goal.returns-then-a-eq0-clause-below
returns-then-a-eq0-clause-below c =
    let e = returns-then-a-eq0-clause-value c in
    rw e (power_int_below c.args.self.now.given (is_lawful c.args.self.now) c.args.a c.args.e)

abs_of : (z : ℤ) → IsNonNegative z → pos (nat_abs z) ≡ z
abs_of (pos n) h = refl
abs_of (negsuc n) h = absurd h

pub returns-clause-value : goal.returns-clause-value
returns-clause-value c =
    let f = c.args.self.now in
    let e = c.args.e in
    let q : c.self.inside.q ≡ order f.given = c.self.invariant.q_is ∙ ap (λ f. order f.given) c.self.view_is in
    let rem = c.rem_euclid-turns.result in
    let r = c.rem_euclid-turns.ensures in
    let fits_rem : SFits w128 rem = search rules in
    let fits_last : SFits w128 c.from.result = search rules in
    let from_is : c.from.result ≡ pos (c.self.inside.q - 1) = c.from.ensures in
    let value : rem ≡ int_rem_euclid e (pos (c.self.inside.q - 1)) =
    r.value ∙ ap (λ z. int_rem_euclid z (to_z w128 (of_z w128 c.from.result))) (to_z-of_z w128 e c.ranges.e)
    ∙ ap (int_rem_euclid e) (to_z-of_z w128 c.from.result fits_last ∙ from_is) in
    let turns = nat_abs (to_z w128 (of_z w128 rem)) in
    let turns_is : pos turns ≡ int_rem_euclid e (pos (order f.given - 1)) =
    ap (λ z. pos (nat_abs z)) (to_z-of_z w128 rem fits_rem) ∙ abs_of rem r.lower_bound ∙ value ∙ ap (λ q. int_rem_euclid e (pos (q - 1))) q in
    let at : (c.from-log.result * turns) % c.from-2.result ≡ (c.log.result * turns) % (order f.given - 1) =
    ap (λ l. (l * turns) % c.from-2.result) c.from-log.ensures ∙ ap (λ m. (c.log.result * turns) % m) (c.from-2.ensures ∙ ap (λ q. q - 1) q) in
    let above = c.if-a-eq0.false in
    c.exp.ensures.value ∙ ap (power f.given f.given.g) at
    ∙ power_read_at f.given (is_lawful f) c.args.a c.log.result e turns (omega (arith, above, c.a.view_is)) c.requires.a_below c.log.ensures.value
    (generator_above f.given (is_lawful f)) turns_is
