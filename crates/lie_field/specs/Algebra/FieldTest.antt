-- The test of a field is passed exactly by the data of a field.
-- For proofs: no public clause cites it.
use Rattle.std.proofs.Common.{◌≡◌, ℕ, zero, suc, ◌-◌, ◌<◌, leb, ltb, eqb, Bool, not, ◌&&◌, T, List, [], ◌∷◌, All, arith, sym, subst}
use Rattle.std.proofs.Math.Facts.{yes_and, and_yes, ltb_yes, yes_ltb, leb_yes, yes_leb, eqb_yes, yes_eqb, eqb_no, no_eqb}
use Rattle.std.proofs.lemmas.Bool.{cases_eq}
use mathlib.Core.Logic.{⊎_elim}
use Rattle.std.specs.List.{list_all}
use Rattle.lie_field.specs.Quotient.{FieldData, degree, order, power, IsRingData, IsFieldData, IsNew}
use Rattle.lie_field.specs.FiniteField.{all_below, is_new, is_ring_data, is_field, FiniteField}

-- a test that holds at each number below n
pub all_below_at : (n : ℕ) (P : ℕ → Bool) → T (all_below n P) → (i : ℕ) → i < n → T (P i)
all_below_at zero P t i l = absurd (omega (arith, l))
all_below_at (suc n) P t i l =
    let (here, rest) = and_yes (P n) (all_below n P) t in
    ⊎_elim (λ (e : i ≡ n). subst (λ j. T (P j)) (sym e) here) (λ (h : ¬ (i ≡ n)). all_below_at n P rest i (omega (arith, l, h))) (cases_eq i n)

-- a fact that holds at each number below n passes the test
pub all_below_from : (n : ℕ) (P : ℕ → Bool) → ((i : ℕ) → i < n → T (P i)) → T (all_below n P)
all_below_from zero P h = tt
all_below_from (suc n) P h =
    yes_and (P n) (all_below n P) (h n (omega arith)) (all_below_from n P (λ i l. h i (omega (arith, l))))

-- coefficients that pass the test are below p
all_at : (p : ℕ) (cs : List ℕ) → T (list_all (λ c. ltb c p) cs) → All (λ c. c < p) cs
all_at p [] t k d l = absurd (omega (arith, l))
all_at p (c ∷ cs) t zero d l = ltb_yes (and_yes (ltb c p) (list_all (λ c. ltb c p) cs) t).0
all_at p (c ∷ cs) t (suc k) d l = all_at p cs (and_yes (ltb c p) (list_all (λ c. ltb c p) cs) t).1 k d (omega (arith, l))

-- coefficients below p pass the test
all_from : (p : ℕ) (cs : List ℕ) → All (λ c. c < p) cs → T (list_all (λ c. ltb c p) cs)
all_from p [] h = tt
all_from p (c ∷ cs) h =
    yes_and (ltb c p) (list_all (λ c. ltb c p) cs) (yes_ltb (h 0 0 (omega arith))) (all_from p cs (λ k d l. h (suc k) d (omega (arith, l))))

-- an exponent that passes the test is new
new_at : (f : FieldData) (e : ℕ) → T (is_new f e) → IsNew f e
unfolding is_new
new_at f e t =
    let (nonzero, apart) = and_yes (not (eqb (power f f.g e) 0)) (all_below e (λ i. not (eqb (power f f.g i) (power f f.g e)))) t in
    (eqb_no nonzero, λ i l. eqb_no (all_below_at e (λ i. not (eqb (power f f.g i) (power f f.g e))) apart i l))

-- a new exponent passes the test
new_from : (f : FieldData) (e : ℕ) → IsNew f e → T (is_new f e)
unfolding is_new
new_from f e h =
    yes_and (not (eqb (power f f.g e) 0)) (all_below e (λ i. not (eqb (power f f.g i) (power f f.g e)))) (no_eqb h.0)
    (all_below_from e (λ i. not (eqb (power f f.g i) (power f f.g e))) (λ i l. no_eqb (h.1 i l)))

-- data that pass the test are those of a ring
ring_at : (f : FieldData) → T (is_ring_data f) → IsRingData f
unfolding is_ring_data
ring_at f t =
    let (p_large, rest) = and_yes (leb 2 f.p) (leb 1 (degree f) && list_all (λ c. ltb c f.p) f.coefficients) t in
    let (has_degree, coefficients) = and_yes (leb 1 (degree f)) (list_all (λ c. ltb c f.p) f.coefficients) rest in
    record { p_large = leb_yes p_large; has_degree = leb_yes has_degree; coefficients_below = all_at f.p f.coefficients coefficients }

-- the data of a ring pass the test
ring_from : (f : FieldData) → IsRingData f → T (is_ring_data f)
unfolding is_ring_data
ring_from f d =
    yes_and (leb 2 f.p) (leb 1 (degree f) && list_all (λ c. ltb c f.p) f.coefficients) (yes_leb d.p_large)
    (yes_and (leb 1 (degree f)) (list_all (λ c. ltb c f.p) f.coefficients) (yes_leb d.has_degree)
    (all_from f.p f.coefficients d.coefficients_below))

-- data that pass the test are those of a field
pub field_at : (f : FieldData) → T (is_field f) → IsFieldData f
unfolding is_field
field_at f t =
    let (ring, rest) = and_yes (is_ring_data f) (ltb f.g (order f) && (all_below (order f - 1) (is_new f) && eqb (power f f.g (order f - 1)) 1)) t in
    let (g_below, powers) = and_yes (ltb f.g (order f)) (all_below (order f - 1) (is_new f) && eqb (power f f.g (order f - 1)) 1) rest in
    let (news, last) = and_yes (all_below (order f - 1) (is_new f)) (eqb (power f f.g (order f - 1)) 1) powers in
    record {
      ring = ring_at f ring;
      g_below = ltb_yes g_below;
      powers_new = λ e l. new_at f e (all_below_at (order f - 1) (is_new f) news e l);
      power_last = eqb_yes last;
    }

-- the data of a field pass the test
pub field_from : (f : FieldData) → IsFieldData f → T (is_field f)
unfolding is_field
field_from f d =
    yes_and (is_ring_data f) (ltb f.g (order f) && (all_below (order f - 1) (is_new f) && eqb (power f f.g (order f - 1)) 1)) (ring_from f d.ring)
    (yes_and (ltb f.g (order f)) (all_below (order f - 1) (is_new f) && eqb (power f f.g (order f - 1)) 1) (yes_ltb d.g_below)
    (yes_and (all_below (order f - 1) (is_new f)) (eqb (power f f.g (order f - 1)) 1)
    (all_below_from (order f - 1) (is_new f) (λ e l. new_from f e (d.powers_new e l)))
    (yes_eqb d.power_last)))

-- the data of a finite field are those of a field
pub is_lawful : (f : FiniteField) → IsFieldData f.given
is_lawful f = field_at f.given f.lawful
