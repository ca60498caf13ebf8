-- The values of roots, of what is lowered and of the axes, read off a diagonal matrix.
use Rattle.std.proofs.Common.{◌≡◌, ◌≢◌, ℕ, zero, suc, ◌<◌, ◌≤◌, List, [], ◌∷◌, ◌++◌, length, take, get_or, refl, sym, ap, ap₂, ◌∙◌, subst, arith, ⊎_elim, length-append}
use Rattle.std.specs.Prelude.{ℤ, pos, neg_ℤ}
use Rattle.std.proofs.lemmas.Bool.{cases_eq, ltb-true}
use Rattle.std.proofs.lemmas.List.{ext_get_or}
use Rattle.std.proofs.Math.ListN.{get_or-append}
use Rattle.std.proofs.Math.Seq.{get_or-append_seam}
use Rattle.lie_ring.specs.RingLemmas.{int_zero}
use Rattle.lie_ring.specs.Matrices.{Matrix, entry}
use Rattle.lie_field.specs.FiniteField.{FiniteField}
use Rattle.lie_field.specs.FieldRing.{field_ring, field_is_ring}
use Rattle.lie_field.specs.Quotient.{order, mul, inv, of_int, power_int}
use Rattle.lie_field.specs.Units.{IsUnit}
use Rattle.lie_field.proofs.UnitLemmas.{power_laws}
use Rattle.lie_datum.specs.Vectors.{Vector, times, unit, combination, entry as coordinate}
use Rattle.lie_datum.specs.Numbers.{number_at}
use Rattle.lie_datum.specs.RootDatum.{vector}
use Rattle.lie_datum.specs.RootList.{RootDatum, root_of, IsNumber}
use Rattle.lie_datum.proofs.SignedRoots.{opposite_number}
use Rattle.lie_orbit.specs.Laws.{IsZero}
use Rattle.lie_orbit.specs.Lowering.{less_root}
use Rattle.lie_const.specs.Modules.{Module, dimension, divided_power}
use Rattle.lie_letters.specs.Entries.{AreUnits, character}
use Rattle.lie_letters.proofs.CharacterLemmas.{IsUnit-character, combination-times}
use Rattle.lie_identities.specs.Audit.{IsGraded}
use Rattle.lie_identities.specs.CoverLines.{IsCombination}
use Rattle.lie_identities.specs.Covers.{less_axis}
use Rattle.lie_audit.specs.WordMatrix.{torus_element}
use Rattle.lie_audit.specs.WeylWeights.{weight_at}
use Rattle.lie_audit.proofs.CharacterValues.{character-plus}
use Rattle.lie_audit.proofs.GradedWeights.{raised}
use Rattle.lie_reduce.specs.TorusReading.{IsValueAt, IsRootValue, AreRootValues, IsQuotientAt, IsTorusOf}
use Rattle.lie_reduce.specs.Triangular.{IsInvertibleDiagonal}
use Rattle.lie_reduce.proofs.TorusValues.{unit-mul, unit-inv, divided, undone, moved_over, character-multiple, character-zero, character-unit, character-less, character-empty, character-more, character-entries}
use Rattle.lie_reduce.proofs.WeylSends.{torus-diagonal}

module _ (f : FiniteField) (v : Module) (D : Matrix ℕ) where
  -- the value of the weight at a place is the entry there
  weight_is : (t : List ℕ) → D ≡ torus_element f v t → (a : ℕ) → a < dimension v → character f t (weight_at v a) ≡ entry 0 D a a
  weight_is t is a low = sym (ap (λ M. entry 0 M a a) is ∙ torus-diagonal f v t a low)

  -- an entry on the diagonal is a unit
  pub diagonal-unit : IsInvertibleDiagonal (field_ring f) (dimension v) D → (a : ℕ) → a < dimension v → IsUnit f (entry 0 D a a)
  diagonal-unit h a low =
      let some = h.units a low in
      let tall = ap (λ M. M.height) h.square.shape in
      let wide = ap (λ M. M.width) h.square.shape in (
        omega (arith, some),
        ltb-true (entry 0 D a a) (order f.given) (h.square.elem a a (omega (arith, low, tall)) (omega (arith, low, wide))),
      )

  -- ---- combinations of weights
  -- one weight more in a product of powers of weights
  pub line-start : (c : Vector) → IsUnit f 1 → IsValueAt f v D (combination (take 0 c) v.weights) 1
  line-start c one = record { unit = one; value = λ t few units is. character-empty f t }

  pub line-step : IsInvertibleDiagonal (field_ring f) (dimension v) D → (c : Vector) (a b : ℕ) → length c ≡ dimension v → a < dimension v
      → IsValueAt f v D (combination (take a c) v.weights) b → IsValueAt f v D (combination (take (suc a) c) v.weights) (mul f.given b (power_int f.given (entry 0 D a a) (coordinate c a)))
  line-step h c a b count low before =
      let e = diagonal-unit h a low in
      let k = coordinate c a in
      record {
        unit = unit-mul f b (power_int f.given (entry 0 D a a) k) before.unit ((power_laws f).unit (entry 0 D a a) e k);
        value = λ t few units is. (
            character-more f t c v.weights a units (omega (arith, low, count)) low
            ∙ ap₂ (mul f.given) (before.value t few units is) (ap (λ z. power_int f.given z k) (weight_is t is a low)));
      }

  -- a cover line of an axis tells the value there
  pub line-value : (j b : ℕ) (c : List ℤ) → IsCombination v j c → IsValueAt f v D (combination c v.weights) b → IsValueAt f v D (unit 8 j) b
  line-value j b c line h = record {
    unit = h.unit;
    value = λ t few units is. sym (character-entries f t (combination c v.weights) (unit 8 j) few line.sum units) ∙ h.value t few units is;
  }

module _ (f : FiniteField) (d : RootDatum) (v : Module) (D : Matrix ℕ) where
  -- ---- roots
  -- two places whose weights stand apart by a root tell its value
  pub root-value : IsInvertibleDiagonal (field_ring f) (dimension v) D → IsGraded d v → (r : ℤ) → IsNumber d r → (a b : ℕ) → a < dimension v → b < dimension v
      → of_int f.given (entry (pos 0) (divided_power v r 1) a b) ≢ 0 → IsRootValue f d v D r (mul f.given (entry 0 D a a) (inv f.given (entry 0 D b b)))
  root-value h graded r number a b p q some =
      let top = diagonal-unit f v D h a p in
      let low = diagonal-unit f v D h b q in
      let nonzero : entry (pos 0) (divided_power v r 1) a b ≢ pos 0 = λ none. some (ap (of_int f.given) none ∙ int_zero (field_ring f) (field_is_ring f)) in
      let apart = raised d v graded r number 1 a b (omega arith) p q nonzero in
      record {
        unit = unit-mul f (entry 0 D a a) (inv f.given (entry 0 D b b)) top (unit-inv f (entry 0 D b b) low);
        value = λ t few units is. (
            let R = vector d.base (root_of d r) in
            let one : character f t (times (pos 1) R) ≡ character f t R = character-multiple f t R (pos 1) units ∙ (power_laws f).at_one (character f t R) (IsUnit-character f t R units) in
            let whole : entry 0 D a a ≡ mul f.given (entry 0 D b b) (character f t R) =
            sym (weight_is f v D t is a p) ∙ ap (character f t) apart ∙ character-plus f t (weight_at v b) (times (pos 1) R) units ∙ ap₂ (mul f.given) (weight_is f v D t is b q) one in
            sym (divided f (entry 0 D a a) (entry 0 D b b) (character f t R) low (IsUnit-character f t R units).1 whole));
      }

  -- the opposite root has the inverse value
  pub opposite-value : (r : ℤ) (a : ℕ) → IsNumber d r → IsRootValue f d v D r a → IsRootValue f d v D (neg_ℤ r) (inv f.given a)
  opposite-value r a number h = record {
    unit = unit-inv f a h.unit;
    value = λ t few units is. (
        let R = vector d.base (root_of d r) in
        ap (λ s. character f t (vector d.base s)) (opposite_number d r number).1
        ∙ ap (character f t) (combination-times (neg_ℤ (pos 1)) (root_of d r).coeffs d.base.roots)
        ∙ character-multiple f t R (neg_ℤ (pos 1)) units
        ∙ (power_laws f).at_negative (character f t R) (IsUnit-character f t R units) (pos 1)
        ∙ ap (inv f.given) ((power_laws f).at_one (character f t R) (IsUnit-character f t R units) ∙ h.value t few units is));
  }

  -- one value more
  pub values-start : AreRootValues f d v D 0 []
  values-start = record { count = refl; each = λ p l. absurd (let never : ⊥ = omega (arith, l) in never) }

  pub values-more : (k : ℕ) (values : List ℕ) (a : ℕ) → AreRootValues f d v D k values → IsRootValue f d v D (number_at (length d.positive) k) a → AreRootValues f d v D (suc k) (values ++ a ∷ [])
  values-more k values a h new = record {
    count = length-append values (a ∷ []) ∙ (let e = h.count in omega (arith, e));
    each = λ p l. ⊎_elim
        (λ (e : p ≡ k).
        let last : get_or (values ++ a ∷ []) p 0 ≡ a = ap (λ j. get_or (values ++ a ∷ []) j 0) (e ∙ sym h.count) ∙ get_or-append_seam values a [] 0 in
        subst (λ z. IsRootValue f d v D (number_at (length d.positive) p) z) (sym last) (subst (λ j. IsRootValue f d v D (number_at (length d.positive) j) a) (sym e) new))
        (λ (o : p ≢ k).
        let low : p < k = omega (arith, l, o) in
        let old : get_or (values ++ a ∷ []) p 0 ≡ get_or values p 0 = get_or-append values (a ∷ []) 0 p (let e = h.count in omega (arith, low, e)) in
        subst (λ z. IsRootValue f d v D (number_at (length d.positive) p) z) (sym old) (h.each p low))
        (cases_eq p k);
  }

  -- ---- lowering
  pub quotient-start : (x : Vector) → IsUnit f 1 → ((a : ℕ) → a < order f.given → mul f.given 1 a ≡ a) → IsQuotientAt f v D x x 1
  quotient-start x unit one = record { unit = unit; value = λ t few units is. sym (one (character f t x) (IsUnit-character f t x units).1) }

  -- a root taken away from what is left
  pub quotient-step : (x y : Vector) (a : ℕ) (r c : ℤ) (b : ℕ) → IsQuotientAt f v D x y a → IsRootValue f d v D r b
      → IsQuotientAt f v D x (less_root d y c r) (mul f.given a (power_int f.given b c))
  quotient-step x y a r c b h root = record {
    unit = unit-mul f a (power_int f.given b c) h.unit ((power_laws f).unit b root.unit c);
    value = λ t few units is. (
        let R = vector d.base (root_of d r) in
        h.value t few units is
        ∙ sym (ap (mul f.given (mul f.given a (power_int f.given b c)))
        (character-less f t y R c units ∙ ap (λ z. mul f.given (character f t y) (inv f.given (power_int f.given z c))) (root.value t few units is))
        ∙ moved_over f a (power_int f.given b c) (character f t y) ((power_laws f).unit b root.unit c) (IsUnit-character f t y units).1));
  }

  -- in the end nothing is left
  pub quotient-end : (x y : Vector) (a : ℕ) → IsZero y → ((a : ℕ) → a < order f.given → mul f.given a 1 ≡ a) → IsQuotientAt f v D x y a → IsValueAt f v D x a
  quotient-end x y a none one h = record {
    unit = h.unit;
    value = λ t few units is. h.value t few units is ∙ ap (mul f.given a) (character-zero f t y none) ∙ one a h.unit.1;
  }

  -- ---- axes
  -- the value of c x - e_j, and that of x at a place, tell that of e_j
  pub axis-value : IsInvertibleDiagonal (field_ring f) (dimension v) D → (c a j rest : ℕ) → a < dimension v → IsValueAt f v D (less_axis c (weight_at v a) j) rest
      → IsValueAt f v D (unit 8 j) (mul f.given (power_int f.given (entry 0 D a a) (pos c)) (inv f.given rest))
  axis-value h c a j rest low value =
      let whole = power_int f.given (entry 0 D a a) (pos c) in
      let e = diagonal-unit f v D h a low in
      let big : IsUnit f whole = (power_laws f).unit (entry 0 D a a) e (pos c) in
      record {
        unit = unit-mul f whole (inv f.given rest) big (unit-inv f rest value.unit);
        value = λ t few units is. (
            let E = unit 8 j in
            let at = character f t E in
            let at_unit = IsUnit-character f t E units in
            let first : character f t (times (pos c) (weight_at v a)) ≡ whole = character-multiple f t (weight_at v a) (pos c) units ∙ ap (λ z. power_int f.given z (pos c)) (weight_is f v D t is a low) in
            let left : rest ≡ mul f.given whole (inv f.given at) =
            sym (value.value t few units is) ∙ character-less f t (times (pos c) (weight_at v a)) E (pos 1) units
            ∙ ap₂ (λ y z. mul f.given y (inv f.given z)) first ((power_laws f).at_one at at_unit) in
            let product : whole ≡ mul f.given rest at = sym (ap (λ z. mul f.given z at) left ∙ back whole at at_unit big.1) in
            sym (divided f whole rest at value.unit at_unit.1 product));
      }
    where
      back : (p a : ℕ) → IsUnit f a → p < order f.given → mul f.given (mul f.given p (inv f.given a)) a ≡ p
      back p a h low = undone f p a h low

  -- ---- the torus vector
  pub torus-only : (ts : List ℕ) → d.base.dim ≡ length ts → d.base.dim ≤ 8 → AreUnits f ts → ((j : ℕ) → j < d.base.dim → IsValueAt f v D (unit 8 (suc j)) (get_or ts j 0)) → IsTorusOf f d v D ts
  torus-only ts long few units each = record {
    long = long;
    units = units;
    only = λ s wide good is. ext_get_or 0 ts s (sym long ∙ wide) (λ j l.
        (let low : j < d.base.dim = omega (arith, l, long) in
        sym ((each j low).value s (omega (arith, wide, few)) good is) ∙ character-unit f s 8 j good (omega (arith, low, wide)) (omega (arith, low, few))));
  }

  -- a list with a value at each axis has units
  pub axis-units : (xs : List ℕ) (n : ℕ) → n ≤ length xs → ((j : ℕ) → j < n → IsValueAt f v D (unit 8 (suc j)) (get_or xs j 0)) → AreUnits f (take n xs)
  axis-units xs n l each = all xs n l (λ j p. (each j p).unit)
    where
      all : (xs : List ℕ) (n : ℕ) → n ≤ length xs → ((j : ℕ) → j < n → IsUnit f (get_or xs j 0)) → AreUnits f (take n xs)
      all xs zero l h = tt
      all [] (suc n) l h = tt
      all (x ∷ xs) (suc n) l h = (h 0 (omega arith), all xs n (omega (arith, l)) (λ j p. h (suc j) (omega (arith, p))))
