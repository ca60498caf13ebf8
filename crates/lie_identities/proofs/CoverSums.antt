-- The sum of multiples of the weights, as the code adds it up, and how it compares with the unit vector of an axis.
use Rattle.std.proofs.Common.{◌≡◌, ℕ, suc, ◌+◌, ◌<◌, ◌≤◌, ℤ, ◌+ℤ◌, ◌*ℤ◌, List, [], length, get_or, take, map, sym, ap, subst, ◌∙◌, arith, unsigned_abs, ⊎_elim}
use Rattle.std.proofs.Math.ListN.{length-map}
use Rattle.std.proofs.lemmas.Int.{to_z-of_z, fits_signed_from_abs}
use mir.Val.{to_z, of_z}
use mir.Syntax.{w64}
use Rattle.lie_datum.specs.Vectors.{Vector, pairing, entry, unit}
use Rattle.lie_datum.proofs.Entries.{within_or_past}
use Rattle.lie_datum.proofs.VectorLemmas.{pairing-take, entry_within, column_entry, vector_within, entry-combination, take_whole, pairing-take_left}
use Rattle.lie_const.specs.Modules.{Module, dimension}
use Rattle.lie_identities.specs.Audit.{HasLightWeights}
use Rattle.lie_identities.specs.CoverLines.{combination_entry}

-- the coordinates k of the weights
abbrev pub column : Module → ℕ → Vector
column v k = map (λ w. entry w k) v.weights

module _ (v : Module) (c : List ℤ) (k : ℕ) where
  -- the sum of the first multiples
  abbrev pub partial : ℕ → ℤ
  partial a = pairing (take a c) (take a (column v k))

  pub partial-more : (a : ℕ) → partial (a + 1) ≡ partial a +ℤ entry c a *ℤ entry (get_or v.weights a []) k
  partial-more a = ap (λ n. partial n) (let e : a + 1 ≡ suc a = omega arith in e) ∙ pairing-take a c (column v k) ∙ ap (λ t. partial a +ℤ entry c a *ℤ t) (column_entry v.weights k a)

  pub partial-all : (a : ℕ) → dimension v ≤ a → length c ≡ dimension v → partial a ≡ combination_entry v c k
  partial-all a l count =
      let n = length-map v.weights (λ (w : Vector). entry w k) in
      ap (pairing (take a c)) (take_whole a (column v k) (omega (arith, n, l))) ∙ pairing-take_left a c (column v k) (omega (arith, n, l)) ∙ sym (entry-combination c v.weights k)

-- a coordinate of a weight is small
pub weight_small : (v : Module) (a k : ℕ) → HasLightWeights v → unsigned_abs (entry (get_or v.weights a []) k) ≤ 1000000
weight_small v a k light = entry_within 1000000 (get_or v.weights a []) k (vector_within 1000000 v.weights a light)

-- one coordinate more that is the same
pub same_more : (v : Module) (j : ℕ) (c : List ℤ) (n : ℕ) → ((k : ℕ) → k < n → combination_entry v c k ≡ entry (unit 8 j) k) → combination_entry v c n ≡ entry (unit 8 j) n
    → (k : ℕ) → k < n + 1 → combination_entry v c k ≡ entry (unit 8 j) k
same_more v j c n before here k l = ⊎_elim (before k)
    (λ m. (let e : k ≡ n = omega (arith, l, m) in subst (λ i. combination_entry v c i ≡ entry (unit 8 j) i) (sym e) here)) (within_or_past k n)

-- a small number of 64 bits, as the code reads it
pub whole_is : (z : ℤ) → unsigned_abs z ≤ 1000000 → to_z w64 (of_z w64 z) ≡ z
whole_is z small = to_z-of_z w64 z (fits_signed_from_abs w64 z (omega (arith, small)))
