-- The reflection in any root permutes the roots, and a simple reflection the positive roots but its own.
use Rattle.std.proofs.Common.{◌≡◌, ◌≢◌, ℕ, zero, suc, ◌≤ℤ◌, pos, negsuc, neg_ℤ, ◌+ℤ◌, ◌*ℤ◌, sym, ap, subst, ◌∙◌, arith}
use Rattle.std.proofs.lemmas.Int.{ints}
use Rattle.lie_datum.specs.Vectors.{Vector, pairing, minus}
use Rattle.lie_datum.specs.RootDatum.{Root, IsRoot, is_simple, IsSimpleIndex, IsPositive, IsNegative, vector, covector, root_pairing, simple, opposite, reflected}
use Rattle.lie_datum.specs.RootList.{RootDatum, IsLoaded}
use Rattle.lie_datum.specs.Laws.{reflected_in, ReflectionLaw, SimpleReflectionLaw}
use Rattle.lie_datum.proofs.Linear.{pairing_comm}
use Rattle.lie_datum.proofs.Roots.{same_root, root_lengths, moved_back, turned, reflected_twice}
use Rattle.lie_datum.proofs.Turns.{IsRoot-reflected_in, reflected_in_simple, reflected_in_itself, pairing-combination-plus}
use Rattle.lie_datum.proofs.LoadedLaws.{short, self, stays, simple_is_positive, not_both, at_entry}
use Rattle.lie_datum.proofs.Entries.{entry-times}
use Rattle.std.proofs.lemmas.List.{get_or_default}
use Rattle.std.specs.List.{All}

opposite_negative : (v : Vector) → All (λ c. pos 0 ≤ℤ c) v → All (λ c. c ≤ℤ pos 0) (minus v)
opposite_negative v h k d l =
    subst (λ t. t ≤ℤ pos 0) (get_or_default (minus v) k (pos 0) d l)
    (let a = entry-times (negsuc 0) v k in let b = at_entry (λ c. pos 0 ≤ℤ c) (omega (arith, ints)) v h k in omega (arith, ints, a, b))

module _ (d : RootDatum) (loaded : IsLoaded d) where
  reflected_in_twice : (r s : Root) → IsRoot d.base r → IsRoot d.base s → reflected_in d.base r (reflected_in d.base r s) ≡ s
  reflected_in_twice r s p q =
      let b = d.base in
      let few = short d loaded in
      let many = loaded.axioms.input.corank in
      let long = root_lengths b few many in
      let k = root_pairing b s r in
      let m = root_pairing b r s in
      let two = self d loaded r p in
      same_root (reflected_in b r (reflected_in b r s)) s
      (moved_back s.coeffs (neg_ℤ k) (neg_ℤ (root_pairing b (reflected_in b r s) r)) r.coeffs (long s q).0 (long r p).0
      (ap (λ t. neg_ℤ k +ℤ neg_ℤ t) (pairing-combination-plus s.coeffs r.coeffs (neg_ℤ k) b.roots (covector b r)) ∙ turned b few many k (root_pairing b r r) two))
      (moved_back s.co_coeffs (neg_ℤ m) (neg_ℤ (root_pairing b r (reflected_in b r s))) r.co_coeffs (long s q).1 (long r p).1
      (ap (λ t. neg_ℤ m +ℤ neg_ℤ t) (pairing_comm (vector b r) (covector b (reflected_in b r s)) ∙ pairing-combination-plus s.co_coeffs r.co_coeffs (neg_ℤ m) b.coroots (vector b r)
      ∙ ap (λ t. t +ℤ neg_ℤ m *ℤ pairing (covector b r) (vector b r)) (pairing_comm (covector b s) (vector b r))
      ∙ ap (λ t. m +ℤ neg_ℤ m *ℤ t) (pairing_comm (covector b r) (vector b r)))
      ∙ turned b few many m (root_pairing b r r) two))

  pub reflection_law_holds : ReflectionLaw d
  reflection_law_holds = record {
    root = IsRoot-reflected_in d.base (short d loaded) loaded.axioms.input.corank loaded.axioms.twos;
    twice = reflected_in_twice;
    simple = λ i s h. sym (reflected_in_simple d.base (short d loaded) loaded.axioms.input.corank loaded.axioms.twos i s h);
  }

  own : (i : ℕ) → IsSimpleIndex d.base i → reflected d.base i (simple i) ≡ opposite (simple i)
  own i h =
      let b = d.base in
      reflected_in_simple b (short d loaded) loaded.axioms.input.corank loaded.axioms.twos i (simple i) h
      ∙ reflected_in_itself b (short d loaded) loaded.axioms.input.corank loaded.axioms.twos (simple i) (self d loaded (simple i) (is_simple i h)) (is_simple i h)

  others : (i : ℕ) (r : Root) → IsSimpleIndex d.base i → IsRoot d.base r → IsPositive r → r ≢ simple i → IsPositive (reflected d.base i r) × (reflected d.base i r ≢ simple i)
  others zero r h p q n = absurd (let l = h.0 in omega (arith, l))
  others (suc i) r h p q n =
      let b = d.base in (
        stays d loaded i r h p q n,
        λ e.
            (let back = sym (reflected_twice b (short d loaded) loaded.axioms.input.corank loaded.axioms.twos (suc i) r h (root_lengths b (short d loaded) loaded.axioms.input.corank r p))
            ∙ ap (reflected b (suc i)) e ∙ own (suc i) h in
            not_opposite r (simple (suc i)) p q (simple_is_positive d loaded i h) back),
      )
    where
      not_opposite : (r s : Root) → IsRoot d.base r → IsPositive r → IsPositive s → r ≡ opposite s → ⊥
      not_opposite r s p q t e = not_both d loaded r p (subst IsNegative (sym e) (opposite_negative s.coeffs t)) q

  pub simple_reflection_law_holds : SimpleReflectionLaw d
  simple_reflection_law_holds = record { own = own; others = others }
