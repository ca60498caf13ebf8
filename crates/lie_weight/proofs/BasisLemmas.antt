-- The basis of the adjoint module: places and basis vectors.
use Rattle.std.proofs.Common.{◌≡◌, ◌≢◌, ℕ, zero, suc, ◌+◌, ◌-◌, ◌<◌, ◌≤◌, ◌⊎◌, ℤ, pos, negsuc, length, refl, sym, ap, subst, ◌∙◌, inl, inr, arith, cond, ltb, slice_get}
use Rattle.std.proofs.lemmas.Bool.{cases_lt, lt-ltb, le-ltb}
use Rattle.lie_datum.specs.RootDatum.{rank, IsSimpleIndex, opposite}
use Rattle.lie_datum.specs.RootList.{RootDatum, IsNumber}
use Rattle.lie_datum.proofs.NumberLemmas.{within, some_within, some_map}
use Rattle.lie_datum.proofs.SignedRoots.{opposite_number}
use Rattle.lie_const.specs.Adjoint.{RootVector, CorootVector, adjoint_dimension, basis_vector, basis_place}
pub use Rattle.lie_weight.specs.AdjointParts.{coroot_place}

-- the place a has the basis vector e_r
pub record IsRootPlace (d : RootDatum) (a : ℕ) (r : ℤ) : Type 0 where
  pub number : IsNumber d r
  pub place : a ≡ basis_place d r
  pub vector : basis_vector d a ≡ RootVector r

-- the place a has the basis vector h_i
pub record IsCorootPlace (d : RootDatum) (a i : ℕ) : Type 0 where
  pub index : IsSimpleIndex d.base i
  pub place : a ≡ coroot_place d i
  pub vector : basis_vector d a ≡ CorootVector i

module _ (d : RootDatum) where
  upper : (a : ℕ) → a < length d.positive → basis_vector d a ≡ RootVector (pos (length d.positive - a))
  upper a l = ap (λ t. cond t (RootVector (pos (length d.positive - a))) (cond (ltb a (length d.positive + rank d.base)) (CorootVector (suc (a - length d.positive))) (RootVector (negsuc (a - (length d.positive + rank d.base)))))) (lt-ltb a (length d.positive) l)

  middle : (a : ℕ) → length d.positive ≤ a → a < length d.positive + rank d.base → basis_vector d a ≡ CorootVector (suc (a - length d.positive))
  middle a h l =
      ap (λ t. cond t (RootVector (pos (length d.positive - a))) (cond (ltb a (length d.positive + rank d.base)) (CorootVector (suc (a - length d.positive))) (RootVector (negsuc (a - (length d.positive + rank d.base)))))) (le-ltb a (length d.positive) h)
      ∙ ap (λ t. cond t (CorootVector (suc (a - length d.positive))) (RootVector (negsuc (a - (length d.positive + rank d.base))))) (lt-ltb a (length d.positive + rank d.base) l)

  lower : (a : ℕ) → length d.positive + rank d.base ≤ a → basis_vector d a ≡ RootVector (negsuc (a - (length d.positive + rank d.base)))
  lower a h =
      ap (λ t. cond t (RootVector (pos (length d.positive - a))) (cond (ltb a (length d.positive + rank d.base)) (CorootVector (suc (a - length d.positive))) (RootVector (negsuc (a - (length d.positive + rank d.base)))))) (le-ltb a (length d.positive) (omega (arith, h)))
      ∙ ap (λ t. cond t (CorootVector (suc (a - length d.positive))) (RootVector (negsuc (a - (length d.positive + rank d.base))))) (le-ltb a (length d.positive + rank d.base) h)

  -- e_r stands at its place
  pub root_place : (r : ℤ) → IsNumber d r → IsRootPlace d (basis_place d r) r
  root_place (pos zero) n = cc
  root_place (pos (suc j)) n =
      let l = within d.positive j n in
      let back : length d.positive - (length d.positive - suc j) ≡ suc j = omega (arith, l) in
      record { number = n; place = refl; vector = upper (length d.positive - suc j) (omega (arith, l)) ∙ ap (λ k. RootVector (pos k)) back }
  root_place (negsuc j) n =
      let back : length d.positive + rank d.base + j - (length d.positive + rank d.base) ≡ j = omega arith in
      record { number = n; place = refl; vector = lower (length d.positive + rank d.base + j) (omega arith) ∙ ap (λ k. RootVector (negsuc k)) back }

  pub root_within : (r : ℤ) → IsNumber d r → basis_place d r < adjoint_dimension d
  root_within (pos zero) n = cc
  root_within (pos (suc j)) n = let l = within d.positive j n in omega (arith, l)
  root_within (negsuc j) n = let l = within d.positive j (some_map opposite (slice_get d.positive j) n) in omega (arith, l)

  -- h_i stands at its place
  pub coroot_at : (i : ℕ) → IsSimpleIndex d.base i → IsCorootPlace d (coroot_place d i) i
  coroot_at zero h = absurd (let l = h.0 in omega (arith, l))
  coroot_at (suc i) h =
      let l = h.1 in
      let e : suc i - 1 ≡ i = omega arith in
      let back : length d.positive + i - length d.positive ≡ i = omega arith in
      record { index = h; place = refl; vector = ap (λ k. basis_vector d (length d.positive + k)) e ∙ middle (length d.positive + i) (omega arith) (omega (arith, l)) ∙ ap (λ k. CorootVector (suc k)) back }

  pub coroot_within : (i : ℕ) → IsSimpleIndex d.base i → coroot_place d i < adjoint_dimension d
  coroot_within i h = let l = h.1 in let k = h.0 in omega (arith, l, k)

  -- each place has e_r for some root r, or h_i for some simple index i
  pub basis_cases : (a : ℕ) → a < adjoint_dimension d → ((r : ℤ) × IsRootPlace d a r) ⊎ ((i : ℕ) × IsCorootPlace d a i)
  basis_cases a l = elim (cases_lt a (length d.positive)) [
    | inl low ↦
        let one : suc (length d.positive - a - 1) ≡ length d.positive - a = omega (arith, low) in
        inl (
          pos (length d.positive - a),
          record {
            number = subst (λ k. IsNumber d (pos k)) one (some_within d.positive (length d.positive - a - 1) (omega (arith, low)));
            place = omega (arith, low);
            vector = upper a low;
          },
        )
    | inr high ↦ elim (cases_lt a (length d.positive + rank d.base)) [
      | inl low ↦
          let e : suc (a - length d.positive) - 1 ≡ a - length d.positive = omega arith in
          inr (
            suc (a - length d.positive),
            record {
              index = (omega arith, omega (arith, high, low));
              place = let f : a ≡ length d.positive + (a - length d.positive) = omega (arith, high) in f ∙ ap (λ k. length d.positive + k) (sym e);
              vector = middle a high low;
            },
          )
      | inr top ↦
          inl (
            negsuc (a - (length d.positive + rank d.base)),
            record {
              number = (opposite_number d (pos (suc (a - (length d.positive + rank d.base)))) (some_within d.positive (a - (length d.positive + rank d.base)) (omega (arith, top, l)))).0;
              place = omega (arith, top);
              vector = lower a top;
            },
          )
    ]
  ]

-- different roots have different places
pub one_place : (d : RootDatum) (r s : ℤ) → IsNumber d r → IsNumber d s → basis_place d r ≡ basis_place d s → r ≡ s
one_place d r s m n e =
    let p = (root_place d r m).vector in
    let q = (root_place d s n).vector in
    let f = ap (basis_vector d) e in
    same (sym p ∙ f ∙ q)
  where
    same : RootVector r ≡ RootVector s → r ≡ s
    same g = cc

-- a root and a simple coroot have different places
pub apart_places : (d : RootDatum) (r : ℤ) (i : ℕ) → IsNumber d r → IsSimpleIndex d.base i → basis_place d r ≢ coroot_place d i
apart_places d r i m h e =
    let p = (root_place d r m).vector in
    let q = (coroot_at d i h).vector in
    let f = ap (basis_vector d) e in
    apart (sym p ∙ f ∙ q)
  where
    apart : RootVector r ≡ CorootVector i → ⊥
    apart g = cc
