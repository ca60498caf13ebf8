-- Simple roots and coroots as vectors, and the torus vector that a simple reflection divides by.
use Rattle.std.proofs.Common.{◌≡◌, ℕ, zero, suc, ◌-◌, ◌≤◌, List, [], map, length, take, get_or, sym, ap, ap₂, ◌∙◌, subst, arith}
use Rattle.std.specs.List.{All}
use Rattle.std.proofs.Math.ListN.{length-map}
use Rattle.lie_field.specs.FiniteField.{FiniteField}
use Rattle.lie_datum.specs.Vectors.{Vector, unit, combination, entry, IsVectorIn}
use Rattle.lie_datum.specs.declared.root_pair.Root.{Root}
use Rattle.lie_datum.specs.RootDatum.{Base, IsSimpleIndex, IsInput, IsWithin, simple, simple_root, simple_coroot, vector, covector}
use Rattle.lie_datum.proofs.Entries.{length-unit, same_entries}
use Rattle.lie_datum.proofs.VectorLemmas.{entry-combination, column_entry, length-combination}
use Rattle.lie_datum.proofs.Reflections.{pairing-unit}
use Rattle.lie_letters.specs.Entries.{IsUnit, AreUnits, inverses, character, cocharacter}
use Rattle.lie_letters.proofs.CharacterLemmas.{AreUnits-powers, length-cocharacter}

-- the combination by a unit vector is the vector at its place
combination-unit : (j : ℕ) (vs : List Vector) → suc j ≤ length vs → length vs ≤ 8 → All (λ v. length v ≡ 8) vs → combination (unit 8 (suc j)) vs ≡ get_or vs j []
combination-unit j vs l few long =
    same_entries (combination (unit 8 (suc j)) vs) (get_or vs j [])
    (length-combination (unit 8 (suc j)) vs (let n = length-unit 8 (suc j) in omega (arith, n)) (omega (arith, l)) long ∙ sym (long j [] l))
    (λ k. entry-combination (unit 8 (suc j)) vs k
    ∙ pairing-unit 8 j (map (λ v. entry v k) vs) (omega (arith, l, few)) (subst (λ n. suc j ≤ n) (sym (length-map vs (λ v. entry v k))) l)
    ∙ column_entry vs k j)

long_vectors : (d : ℕ) (vs : List Vector) → All (λ v. IsVectorIn d v × IsWithin 100 v) vs → All (λ v. length v ≡ 8) vs
long_vectors d vs h k e l = (h k e l).0.0

module _ (b : Base) (input : IsInput b) where
  few : length b.roots ≤ 8
  few = let a = input.rank in let c = input.dim.1 in omega (arith, a, c)

  -- the vector of a simple root
  pub vector_simple : (i : ℕ) → IsSimpleIndex b i → vector b (simple i) ≡ simple_root b i
  vector_simple zero h = absurd (let l = h.0 in omega (arith, l))
  vector_simple (suc j) h =
      let e : suc j - 1 ≡ j = omega arith in
      combination-unit j b.roots h.1 few (long_vectors b.dim b.roots input.roots) ∙ ap (λ k. get_or b.roots k []) (sym e)

  -- and of its coroot
  pub covector_simple : (i : ℕ) → IsSimpleIndex b i → covector b (simple i) ≡ simple_coroot b i
  covector_simple zero h = absurd (let l = h.0 in omega (arith, l))
  covector_simple (suc j) h =
      let e : suc j - 1 ≡ j = omega arith in
      let same = input.corank in
      combination-unit j b.coroots (let l = h.1 in omega (arith, l, same)) (let l = few in omega (arith, l, same)) (long_vectors b.dim b.coroots input.coroots) ∙ ap (λ k. get_or b.coroots k []) (sym e)

  -- a simple coroot has eight entries
  pub length-simple_coroot : (i : ℕ) → IsSimpleIndex b i → length (simple_coroot b i) ≡ 8
  length-simple_coroot i h =
      let same = input.corank in
      let l = h.0 in
      let m = h.1 in
      long_vectors b.dim b.coroots input.coroots (i - 1) [] (omega (arith, l, m, same))

  -- a simple coroot at a unit has an entry for each coordinate, all of them units
  pub length-divisor : (F : FiniteField) (i : ℕ) (a : ℕ) → IsSimpleIndex b i → length (cocharacter F b.dim (simple_coroot b i) a) ≡ b.dim
  length-divisor F i a h =
      length-cocharacter F b.dim (simple_coroot b i) a (let l = input.dim.1 in let n = length-simple_coroot i h in omega (arith, l, n))

  -- the divisor of the reflection, from the root and the values that a program finds for it
  pub divisor_is : (F : FiniteField) (i : ℕ) (t : List ℕ) (r : Root) (v : Vector) (a : ℕ) (divisor inverse : List ℕ) → IsSimpleIndex b i → r ≡ simple i
      → v ≡ vector b r → a ≡ character F t v → divisor ≡ cocharacter F b.dim (covector b r) a → inverse ≡ inverses F divisor
      → inverse ≡ inverses F (cocharacter F b.dim (simple_coroot b i) (character F t (simple_root b i)))
  divisor_is F i t r v a divisor inverse h root is value makes inverts =
      let at = value ∙ ap (character F t) (is ∙ ap (vector b) root ∙ vector_simple i h) in
      let coroot = ap (covector b) root ∙ covector_simple i h in
      inverts ∙ ap (inverses F) (makes ∙ ap₂ (cocharacter F b.dim) coroot at)

-- a coroot at a unit has units as entries
pub AreUnits-cocharacter : (F : FiniteField) (d : ℕ) (y : Vector) (a : ℕ) → IsUnit F a → AreUnits F (cocharacter F d y a)
AreUnits-cocharacter F d y a h = AreUnits-powers F a (take d y) h
