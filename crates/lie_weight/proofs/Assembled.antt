-- The weights and the matrices of all roots make the adjoint module.
use Rattle.std.proofs.Common.{◌≡◌, ℕ, zero, suc, ◌*◌, ◌<◌, ◌≤◌, ℤ, pos, [], length, map, get_or, sym, ap, ap₂, subst, ◌∙◌, arith, ⊎_elim, unsigned_abs}
use Rattle.std.specs.List.{All, range_with_len}
use Rattle.std.proofs.lemmas.List.Elements.{All-get_or, All-from_get_or}
use Rattle.std.proofs.lemmas.List.FromFn.{get_or-map-range_with_len, length-map-range_with_len}
use Rattle.std.proofs.lemmas.List.{get_or-replicate, length-replicate}
use Rattle.lie_ring.specs.Matrices.{table, entry, zero_matrix}
use Rattle.lie_datum.specs.Numbers.{place, number_at}
use Rattle.lie_datum.specs.RootDatum.{IsWithin, vector}
use Rattle.lie_datum.specs.RootList.{RootDatum, IsLoaded, IsNumber, root_of}
use Rattle.lie_datum.proofs.LoadedLaws.{short}
use Rattle.lie_datum.proofs.NumberLemmas.{place_within, numbered_at}
use Rattle.lie_datum.proofs.SignedRoots.{same_place}
use Rattle.lie_orbit.proofs.WeightLemmas.{within_more, root_within}
use Rattle.lie_const.specs.StructureConstants.{Table}
use Rattle.lie_const.specs.Modules.{Module, dimension, divided_powers, divided_power, top, IsModule}
use Rattle.lie_const.specs.Adjoint.{IsAdjoint, adjoint_dimension, basis_vector, basis_weight}
use Rattle.lie_weight.specs.Kept.{IsSquare, ArePowers, IsKeptModule}
use Rattle.lie_weight.specs.AdjointParts.{IsDivided, AreDivided, AreAllDivided}
use Rattle.lie_weight.proofs.BasisLemmas.{basis_cases}

-- the number at the place of a root is its number
pub number_place : (d : RootDatum) (r : ℤ) → IsNumber d r → number_at (length d.positive) (place (length d.positive) r) ≡ r
number_place d r n =
    let m = length d.positive in
    let within = place_within d r n in
    let at = numbered_at d (place m r) within.2 in
    same_place m (number_at m (place m r)) r (place_within d (number_at m (place m r)) at.number) within at.place

module _ (d : RootDatum) (loaded : IsLoaded d) (n : Table) (v : Module) (positive : v.positive ≡ length d.positive) (weights : v.weights ≡ map (λ a. basis_weight d (basis_vector d a)) (range_with_len 0 (adjoint_dimension d))) (all : AreAllDivided d n (2 * length d.positive) v.powers) where
  dim : dimension v ≡ adjoint_dimension d
  dim = ap length weights ∙ length-map-range_with_len (λ a. basis_weight d (basis_vector d a)) 0 (adjoint_dimension d)

  at : (r : ℤ) → IsNumber d r → AreDivided d n r (divided_powers v r)
  at r m =
      let p = place (length d.positive) r in
      subst (λ q. AreDivided d n r (get_or v.powers (place q r) [])) (sym positive) (subst (λ s. AreDivided d n s (get_or v.powers p [])) (number_place d r m) (all.each p (place_within d r m).2))

  -- E_r^(k+1) with the shape that the datum gives
  power-shape : (r : ℤ) (k : ℕ) → divided_power v r (suc k) ≡ get_or (divided_powers v r) k (zero_matrix (pos 0) (adjoint_dimension d) (adjoint_dimension d))
  power-shape r k = ap (λ m. get_or (divided_powers v r) k (zero_matrix (pos 0) m m)) dim

  square : (r : ℤ) (k : ℕ) → IsNumber d r → k < top v r → divided_power v r (suc k) ≡ table (dimension v) (dimension v) (entry (pos 0) (divided_power v r (suc k)))
  square r k m l =
      let M = get_or (divided_powers v r) k (zero_matrix (pos 0) (adjoint_dimension d) (adjoint_dimension d)) in
      let s = All-get_or (IsSquare (adjoint_dimension d)) (divided_powers v r) k (zero_matrix (pos 0) (adjoint_dimension d) (adjoint_dimension d)) l (at r m).squares in
      let is : M ≡ table (dimension v) (dimension v) (entry (pos 0) M) = s.shaped ∙ ap₂ (λ a b. table a b (entry (pos 0) M)) (s.height ∙ sym dim) (s.width ∙ sym dim) in
      power-shape r k ∙ is ∙ ap (λ N. table (dimension v) (dimension v) (entry (pos 0) N)) (sym (power-shape r k))

  module_is : IsModule d v
  module_is = record {
    positive = positive;
    roots = all.count;
    square = square;
    last = λ r k m e f. (at r m).last k e (sym (power-shape r k) ∙ f ∙ ap (λ a. zero_matrix (pos 0) a a) dim);
  }

  powers : (r : ℤ) (k i j : ℕ) → IsNumber d r → 1 ≤ k → i < adjoint_dimension d → j < adjoint_dimension d → IsDivided d n r k (entry (pos 0) (divided_power v r k) i j) i j
  powers r zero i j m h a b = absurd (omega (arith, h))
  powers r (suc k) i j m h a b = subst (λ M. IsDivided d n r (suc k) (entry (pos 0) M i j) i j) (sym (power-shape r k)) ((at r m).entries k i j a b)

  -- the module is the adjoint module
  pub adjoint_is : IsAdjoint d n v
  adjoint_is = record { is_module = module_is; weights = weights; powers = powers }

  -- the roots are small weights
  weight_within : (a : ℕ) → a < adjoint_dimension d → IsWithin 1000000 (basis_weight d (basis_vector d a))
  weight_within a l = ⊎_elim
      (λ (r : _). subst (λ t. IsWithin 1000000 (basis_weight d t)) (sym r.1.vector) (within_more 80000 1000000 (vector d.base (root_of d r.0)) (omega arith) (root_within d loaded r.0 r.1.number)))
      (λ (i : _). subst (λ t. IsWithin 1000000 (basis_weight d t)) (sym i.1.vector) (λ k z m. subst (λ t. unsigned_abs t ≤ 1000000) (sym (get_or-replicate 8 k (pos 0) z (let e = length-replicate 8 (pos 0) in omega (arith, m, e)))) (omega arith)))
      (basis_cases d a l)

  light : All (IsWithin 1000000) v.weights
  light = subst (All (IsWithin 1000000)) (sym weights) (All-from_get_or (IsWithin 1000000) (map (λ a. basis_weight d (basis_vector d a)) (range_with_len 0 (adjoint_dimension d))) [] (λ a l.
      (let m : a < adjoint_dimension d = let e = length-map-range_with_len (λ a. basis_weight d (basis_vector d a)) 0 (adjoint_dimension d) in omega (arith, l, e) in
      subst (IsWithin 1000000) (sym (get_or-map-range_with_len (λ a. basis_weight d (basis_vector d a)) 0 (adjoint_dimension d) a a [] m (omega arith))) (weight_within a m))))

  -- and is kept as it should be
  pub kept_is : length d.positive ≤ 120 → IsKeptModule v
  kept_is small = record {
    small = omega (arith, positive, small);
    narrow = let s = short d loaded in omega (arith, dim, small, s);
    light = light;
    roots = let c = all.count in omega (arith, c, positive);
    powers = All-from_get_or (ArePowers (dimension v)) v.powers [] (λ i l. (let c = all.count in let p = all.each i (omega (arith, l, c)) in record {
      few = let f = p.few in omega (arith, f, dim, l, c);
      squares = subst (λ m. All (IsSquare m) (get_or v.powers i [])) (sym dim) p.squares;
    }));
  }
