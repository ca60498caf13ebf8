-- The terms of the commutator of two root elements, read from a table of structure constants.
--
--   M_rsi            string_product d n r s i, over i!          N_(r,s) N_(r,r+s) .. N_(r,(i-1)r+s) / i!
--   C_ijrs           coefficient d n r s i j           a fraction, whole or not
--   the terms        AreTerms d n r s ts               the roots i r + j s with their C_ijrs
--
-- Source: Carter, Simple Groups of Lie Type, 5.2 (the commutator formula).
-- Own: the order of the terms, by rising i + j, then rising i; r and s in these formulas are coefficient vectors.
use Rattle.std.specs.Prelude.{◌≡◌, ◌≢◌, ℕ, zero, suc, ◌+◌, ◌*◌, ◌<◌, ℤ, pos, negsuc, neg_ℤ, ◌*ℤ◌, List, [], ◌∷◌, Some, ◌||◌, ◌⊎◌, is_some, slice_get, length, if◌then◌else◌}
use Rattle.std.specs.List.{position, filter, AllZip}
use Rattle.std.specs.Option.{option_map_or}
use Rattle.std.specs.Ordering.{int_cmp, is_eq}
use Rattle.lie_datum.specs.Vectors.{Vector, plus, times, minus}
use Rattle.lie_datum.specs.Numbers.{place}
use Rattle.lie_datum.specs.RootList.{RootDatum, IsNumber}
use Rattle.lie_const.specs.declared.term.Term.{Term}
use Rattle.lie_const.specs.StructureConstants.{Table, coeffs_of, find_root, same_vector}

-- the signed number of the root with these coefficients, or 0
abbrev pub number_of : RootDatum → Vector → ℤ
number_of d v =
    option_map_or (λ k. pos (k + 1)) (position (λ r. same_vector r.coeffs v) d.positive)
    (option_map_or negsuc (position (λ r. same_vector r.coeffs (minus v)) d.positive) (pos 0))

-- N of two vectors: 0 where one is no root, or where they are opposite
abbrev pub value_at : RootDatum → Table → Vector → Vector → ℤ
value_at d n u v =
    if is_eq (int_cmp (number_of d u) (pos 0)) || is_eq (int_cmp (number_of d v) (pos 0)) || same_vector u (minus v) then pos 0 else n (number_of d u) (number_of d v)

-- N_(r,s) N_(r,r+s) .. N_(r,(i-1)r+s), which is i! M_rsi
abbrev pub string_product : RootDatum → Table → Vector → Vector → ℕ → ℤ
string_product d n r s zero = pos 1
string_product d n r s (suc i) = string_product d n r s i *ℤ value_at d n r (plus (times (pos i) r) s)

-- n!
abbrev pub factorial : ℕ → ℕ
factorial zero = 1
factorial (suc n) = suc n * factorial n

-- (-1)^n
abbrev pub sign : ℕ → ℤ
sign zero = pos 1
sign (suc n) = neg_ℤ (sign n)

-- a number as a quotient
pub record Fraction : Type 0 where
  pub above : ℤ
  pub below : ℕ

-- C_ijrs: M_rsi at (i, 1), (-1)^j M_srj at (1, j), M_(r+s,r,2) / 3 at (3, 2), and -2 M_(s+r,s,2) / 3 at (2, 3)
abbrev pub coefficient : RootDatum → Table → Vector → Vector → ℕ → ℕ → Fraction
coefficient d n r s i (suc zero) = record { above = string_product d n r s i; below = factorial i }
coefficient d n r s (suc zero) j = record { above = sign j *ℤ string_product d n s r j; below = factorial j }
coefficient d n r s (suc (suc (suc zero))) (suc (suc zero)) = record { above = string_product d n (plus r s) r 2; below = 6 }
coefficient d n r s (suc (suc zero)) (suc (suc (suc zero))) = record { above = negsuc 1 *ℤ string_product d n (plus s r) s 2; below = 6 }
coefficient d n r s i j = record { above = pos 0; below = 1 }

-- the number c is the fraction
abbrev pub IsValue : ℤ → Fraction → Type 0
IsValue c f = c *ℤ pos f.below ≡ f.above

-- (i, j), by rising i + j, then rising i
abbrev pub exponents : List (ℕ × ℕ)
exponents = (1, 1) ∷ ((1, 2) ∷ ((2, 1) ∷ ((1, 3) ∷ ((3, 1) ∷ ((2, 3) ∷ ((3, 2) ∷ []))))))

-- i r + j s
abbrev pub term_vector : RootDatum → ℤ → ℤ → ℕ × ℕ → Vector
term_vector d r s e = plus (times (pos e.0) (coeffs_of d r)) (times (pos e.1) (coeffs_of d s))

-- the (i, j) for which i r + j s is a root
abbrev pub term_exponents : RootDatum → ℤ → ℤ → List (ℕ × ℕ)
term_exponents d r s = filter (λ e. is_some (find_root d (term_vector d r s e))) exponents

-- t is the term of (i, j): the root i r + j s with C_ijrs
pub record IsTerm (d : RootDatum) (n : Table) (r s : ℤ) (e : ℕ × ℕ) (t : Term) : Type 0 where
  pub i : t.i ≡ e.0
  pub j : t.j ≡ e.1
  pub root : t.root ≡ number_of d (term_vector d r s e)
  pub value : IsValue t.value (coefficient d n (coeffs_of d r) (coeffs_of d s) e.0 e.1)

-- the terms of r and s in order, one for each (i, j)
abbrev pub AreTerms : RootDatum → Table → ℤ → ℤ → List Term → Type 0
AreTerms d n r s ts = AllZip (IsTerm d n r s) (term_exponents d r s) ts

-- C_ijrs isn't whole
abbrev pub IsFraction : RootDatum → Table → ℤ → ℤ → ℕ × ℕ → Type 0
IsFraction d n r s e = (c : ℤ) → ¬ IsValue c (coefficient d n (coeffs_of d r) (coeffs_of d s) e.0 e.1)

-- two roots that have terms: neither equal nor opposite
pub record IsPair (d : RootDatum) (r s : ℤ) : Type 0 where
  pub left : IsNumber d r
  pub right : IsNumber d s
  pub unequal : s ≢ r
  pub independent : s ≢ neg_ℤ r

-- C_ijrs is the first that isn't whole, for r in the full order, then s, then the terms in order
pub record IsFirstFraction (d : RootDatum) (n : Table) (r s : ℤ) (i j : ℕ) : Type 0 where
  pub pair : IsPair d r s
  pub term : ℕ
  pub exponents : slice_get (term_exponents d r s) term ≡ Some (i, j)
  pub fraction : IsFraction d n r s (i, j)
  pub earlier_terms : (t : ℕ) (e : ℕ × ℕ) → t < term → slice_get (term_exponents d r s) t ≡ Some e → ¬ IsFraction d n r s e
  pub earlier_pairs : (r' s' : ℤ) (t : ℕ) (e : ℕ × ℕ) → IsPair d r' s' →
      (place (length d.positive) r' < place (length d.positive) r) ⊎ ((r' ≡ r) × (place (length d.positive) s' < place (length d.positive) s)) →
      slice_get (term_exponents d r' s') t ≡ Some e → ¬ IsFraction d n r' s' e
