-- The terms of a lawful frame: those of positive roots stand after both, and are spelled as over the field's ring.
use Rattle.std.proofs.Common.{◌≡◌, ◌≢◌, ℕ, zero, suc, ◌<◌, ℤ, pos, negsuc, ◌<ℤ◌, nat_abs, List, [], ◌∷◌, map, length, false, refl, sym, ap, ap₂, subst, ◌∙◌, arith, ◌⊎◌}
use Rattle.std.proofs.lemmas.Int.{ints}
use Rattle.std.proofs.lemmas.Bool.{true≢false}
use Rattle.std.specs.List.{AllByRecursion}
use Rattle.lie_base.specs.Below.{same_below}
use Rattle.lie_field.specs.FieldRing.{field_ring}
use Rattle.lie_field.specs.Quotient.{mul}
use Rattle.lie_field.specs.Elements.{Elem, elem_neg, elem_mul, elem_int, one_elem-number, elem_neg-number, elem_mul-number, elem_int-number}
use Rattle.lie_datum.specs.Numbers.{place}
use Rattle.lie_datum.specs.RootList.{RootDatum, all_roots}
use Rattle.lie_const.specs.declared.term.Term.{Term as ConstantTerm}
use Rattle.lie_const.specs.CommutatorTerms.{IsPair}
use Rattle.lie_const.specs.ConstantTables.{terms_of}
use Rattle.lie_letters.specs.Names.{RootName, signed_number, numbered_name, is_negative_name}
use Rattle.lie_letters.specs.Frames.{FrameData, setting, term_of, terms_at, IsLawfulFrame}
use Rattle.lie_letters.specs.Relations.{term_letters, power}
use Rattle.lie_letters.specs.RingLetters.{power as ring_power, term_word}
use Rattle.lie_letters.specs.PositiveTerms.{positive_term}
use Rattle.lie_letters.specs.Spelled.{spelled, root_letters}
use Rattle.lie_letters.specs.declared.letter.Letter.TheVariants.{X as CodeX}
use Rattle.lie_letters.specs.Collecting.{AreLater, CollectLaws}
use Rattle.lie_letters.proofs.NameLemmas.{named_is, same_number, signed_number-numbered}
use Rattle.lie_letters.proofs.PositiveRootLemmas.{positive_laws, number_of_positive, positive_of_number}
use Rattle.lie_letters.proofs.TermLemmas.{IsLaterTerm, terms_at-roots, later_terms}

-- of two roots with positive numbers the one with the lesser number stands before
before_by_number : (m : ℕ) (j k : ℤ) → pos 0 <ℤ j → j <ℤ k → place m j < place m k
before_by_number m (pos zero) k p l = absurd (omega (arith, ints, p))
before_by_number m (negsuc j) k p l = absurd (omega (arith, ints, p))
before_by_number m (pos (suc j)) (pos k) p l = omega (arith, ints, l)
before_by_number m (pos (suc j)) (negsuc k) p l = absurd (omega (arith, ints, l))

-- a positive number is its absolute value
pub positive_abs : (k : ℤ) → pos 0 <ℤ k → k ≡ pos (nat_abs k)
positive_abs (pos k) l = refl
positive_abs (negsuc k) l = absurd (omega (arith, ints, l))

module _ (f : FrameData) (lawful : IsLawfulFrame f) where
  abbrev d : RootDatum
  d = f.datum

  -- the terms of two positive roots that are not equal
  later_terms_of : (r s : RootName d) → is_negative_name d r ≡ false → is_negative_name d s ≡ false → ¬ (r ≡ s)
      → AllByRecursion (IsLaterTerm d (signed_number d r) (signed_number d s)) (terms_of f.constants (signed_number d r) (signed_number d s))
  later_terms_of r s p q apart =
      let a = named_is d r in
      let b = named_is d s in
      let up = number_of_positive d lawful.loaded r p in
      let down = number_of_positive d lawful.loaded s q in
      let pair : IsPair d (signed_number d r) (signed_number d s) = record {
        left = a.number;
        right = b.number;
        unequal = λ e. apart (same_number d r s (sym e));
        independent = λ e. (omega (arith, ints, up, down, e));
      } in
      later_terms d lawful.loaded (signed_number d r) (signed_number d s) a.number b.number up down (terms_of f.constants (signed_number d r) (signed_number d s))
      (terms_at-roots d lawful.loaded f.constants (signed_number d r) (signed_number d s) lawful.constants pair)

  term_later : (r s other : RootName d) → is_negative_name d r ≡ false → is_negative_name d s ≡ false → (c : ConstantTerm) → IsLaterTerm d (signed_number d r) (signed_number d s) c
      → let q = numbered_name d other c.root in (is_negative_name d q ≡ false) × (r.number < q.number) × (s.number < q.number)
  term_later r s other p q c h =
      let z = numbered_name d other c.root in
      let is : signed_number d z ≡ c.root = signed_number-numbered d lawful.loaded other c.root h.at.number in
      let m = length d.positive in
      let at : place m c.root ≡ z.number = ap (place m) (sym is) ∙ (named_is d z).place in
      let first = before_by_number m (signed_number d r) c.root (number_of_positive d lawful.loaded r p) h.after_first in
      let second = before_by_number m (signed_number d s) c.root (number_of_positive d lawful.loaded s q) h.after_second in
      let a = (named_is d r).place in
      let b = (named_is d s).place in (
        positive_of_number d lawful.loaded z (subst (λ k. pos 0 <ℤ k) (sym is) h.positive),
        omega (arith, first, a, at),
        omega (arith, second, b, at),
      )

  -- the terms of two positive roots stand after both
  pub later : (r s : RootName d) → is_negative_name d r ≡ false → is_negative_name d s ≡ false → ¬ (r ≡ s) → AreLater (setting f) r s (terms_at f r s)
  unfolding terms_at term_of
  later r s p q apart = walk (terms_of f.constants (signed_number d r) (signed_number d s)) (later_terms_of r s p q apart)
    where
      walk : (cs : List ConstantTerm) → AllByRecursion (IsLaterTerm d (signed_number d r) (signed_number d s)) cs → AreLater (setting f) r s (map (term_of f r) cs)
      walk [] h = tt
      walk (c ∷ cs) h = (term_later r s r p q c h.0, walk cs h.1)

  -- what collecting asks of a lawful frame
  pub collect_laws : CollectLaws (setting f)
  collect_laws = record {
    apart = λ r s p q e. true≢false (sym ((positive_laws d lawful.loaded).positive_opposite r p) ∙ ap (is_negative_name d) (sym e) ∙ q);
    one_way = λ r s h g. omega (arith, h, g);
    ordered = λ r s h. by_order r s h;
    later = later;
  }
    where
      by_order : (r s : RootName d) → ¬ (r ≡ s) → (r.number < s.number) ⊎ (s.number < r.number)
      by_order r s h =
          let apart : r.number ≢ s.number = λ e. h (same_below (length (all_roots d)) r s e) in
          grind arith

  -- ---- the letters of terms, by numbers
  pub power-number : (a : Elem f.field) (n : ℕ) → (power (setting f) a n).number ≡ ring_power (field_ring f.field) a.number n
  power-number a zero = one_elem-number f.field
  power-number a (suc n) = elem_mul-number f.field (power (setting f) a n) a ∙ ap (λ x. mul f.field.given x a.number) (power-number a n)

  -- the element of a term
  term-number : (c : ConstantTerm) (t u : Elem f.field) → let R = field_ring f.field in
      (elem_mul f.field (elem_int f.field c.value) (elem_mul f.field (power (setting f) (elem_neg f.field t) c.i) (power (setting f) u c.j))).number
      ≡ R.mul (R.of_int c.value) (R.mul (ring_power R (R.neg t.number) c.i) (ring_power R u.number c.j))
  term-number c t u =
      let F = f.field in
      let x = power (setting f) (elem_neg F t) c.i in
      let y = power (setting f) u c.j in
      elem_mul-number F (elem_int F c.value) (elem_mul F x y)
      ∙ ap₂ (mul F.given) (elem_int-number F c.value)
      (elem_mul-number F x y ∙ ap₂ (mul F.given) (power-number (elem_neg F t) c.i ∙ ap (λ z. ring_power (field_ring F) z c.i) (elem_neg-number F t)) (power-number u c.j))

  -- the letters of the terms of two positive roots are those over the field's ring
  pub terms_spelled : (r s : RootName d) → is_negative_name d r ≡ false → is_negative_name d s ≡ false → ¬ (r ≡ s) → (t u : Elem f.field)
      → map (spelled f) (term_letters (setting f) (terms_at f r s) t u)
      ≡ root_letters (term_word (field_ring f.field) (map positive_term (terms_of f.constants (signed_number d r) (signed_number d s))) t.number u.number)
  unfolding terms_at term_of
  terms_spelled r s p q apart t u = walk (terms_of f.constants (signed_number d r) (signed_number d s)) (later_terms_of r s p q apart)
    where
      walk : (cs : List ConstantTerm) → AllByRecursion (IsLaterTerm d (signed_number d r) (signed_number d s)) cs
          → map (spelled f) (term_letters (setting f) (map (term_of f r) cs) t u) ≡ root_letters (term_word (field_ring f.field) (map positive_term cs) t.number u.number)
      walk [] h = refl
      walk (c ∷ cs) h =
          ap₂ ◌∷◌
          (ap₂ CodeX (signed_number-numbered d lawful.loaded r c.root h.0.at.number ∙ positive_abs c.root h.0.positive) (term-number c t u))
          (walk cs h.1)
