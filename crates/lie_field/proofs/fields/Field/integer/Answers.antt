use Rattle.std.proofs.Common.{◌≡◌, ℕ, ◌%◌, ◌^◌, ◌<◌, true, false, refl, sym, ap, ◌∙◌, arith, rules}
use Rattle.std.specs.Prelude.{ℤ, pos, negsuc, unsigned_abs, int_lt}
use Rattle.std.specs.Int.{w128}
use Rattle.std.proofs.lemmas.Bool.{ltb-true, true≢false}
use Rattle.std.proofs.lemmas.Int.{to_z-of_z}
use Rattle.lie_field.specs.Quotient.{FieldData, order, neg, of_int, IsRingData}
use Rattle.lie_field.specs.Algebra.Scalars.{of_nat, of_nat-below}
use Rattle.lie_field.specs.Tables.{data_of, is_field_of}
use Rattle.lie_field.proofs.fields.Field.integer.Goals as goal

negative : (f : FieldData) (n : ℤ) → int_lt n (pos 0) ≡ true → neg f (unsigned_abs n % f.p) ≡ of_int f n
unfolding of_int
negative f (pos n) l = absurd (omega (arith, ltb-true n 0 l))
negative f (negsuc n) l = refl

other : (f : FieldData) (n : ℤ) → int_lt n (pos 0) ≡ false → unsigned_abs n % f.p ≡ of_int f n
unfolding of_int
other f (pos n) l = refl
other f (negsuc n) l = absurd (true≢false l)

below : (f : FieldData) → IsRingData f → (n : ℕ) → n % f.p < order f
unfolding of_nat
below f d n = of_nat-below f d n

pub nonzero_rem-residue : goal.nonzero_rem-residue
nonzero_rem-residue c = let l = (is_field_of c.self.inside).ring.p_large in omega (arith, l, c.from.ensures)

pub overflow_cast-residue : goal.overflow_cast-residue
overflow_cast-residue c =
    let l = below (data_of c.self.inside) (is_field_of c.self.inside).ring c.unsigned_abs.result in
    let q = c.self.invariant.q_small in
    let is : c.unsigned_abs.result % c.from.result ≡ c.unsigned_abs.result % c.self.inside.p = ap (λ p. c.unsigned_abs.result % p) c.from.ensures in
    let fits : c.unsigned_abs.result % c.from.result < 2 ^ 32 = omega (arith, is, l, q, c.self.invariant.q_is) in
    search (rules, fits)

pub neg-requires : goal.neg-requires
neg-requires c =
    rw (c.from.ensures, ← c.self.view_is) (record { a_below = below (data_of c.self.inside) (is_field_of c.self.inside).ring c.unsigned_abs.result })

pub returns-then-n-lt0-clause-value : goal.returns-then-n-lt0-clause-value
returns-then-n-lt0-clause-value c =
    let n_is = to_z-of_z w128 c.args.n c.ranges.n in
    let f = data_of c.self.inside in
    let abs : c.unsigned_abs.result ≡ unsigned_abs c.args.n = c.unsigned_abs.ensures.value ∙ ap unsigned_abs n_is in
    c.neg.ensures.value
    ∙ ap (λ g. neg g.given (c.unsigned_abs.result % c.from.result)) (sym c.self.view_is)
    ∙ ap (neg f) (ap (λ p. c.unsigned_abs.result % p) c.from.ensures ∙ ap (λ a. a % f.p) abs)
    ∙ negative f c.args.n (ap (λ z. int_lt z (pos 0)) (sym n_is) ∙ c.if-n-lt0.true)
    ∙ ap (λ g. of_int g.given c.args.n) c.self.view_is

pub returns-else-n-lt0-clause-value : goal.returns-else-n-lt0-clause-value
returns-else-n-lt0-clause-value c =
    let n_is = to_z-of_z w128 c.args.n c.ranges.n in
    let f = data_of c.self.inside in
    let abs : c.unsigned_abs.result ≡ unsigned_abs c.args.n = c.unsigned_abs.ensures.value ∙ ap unsigned_abs n_is in
    ap (λ p. c.unsigned_abs.result % p) c.from.ensures ∙ ap (λ a. a % f.p) abs
    ∙ other f c.args.n (ap (λ z. int_lt z (pos 0)) (sym n_is) ∙ c.if-n-lt0.false)
    ∙ ap (λ g. of_int g.given c.args.n) c.self.view_is

pub returns-else-n-lt0-clause-below : goal.returns-else-n-lt0-clause-below
returns-else-n-lt0-clause-below c =
    rw (c.from.ensures, ← c.self.view_is) (below (data_of c.self.inside) (is_field_of c.self.inside).ring c.unsigned_abs.result)
