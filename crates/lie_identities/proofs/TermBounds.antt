-- The terms of a commutator have small exponents and small numbers.
use Rattle.std.proofs.Common.{◌≡◌, ℕ, zero, suc, ◌*◌, ◌≤◌, ℤ, pos, negsuc, neg_ℤ, ◌*ℤ◌, unsigned_abs, nat_abs, List, [], ◌∷◌, length, cond, true, false, Bool, refl, sym, ap, subst, ◌∙◌, arith, ⊎_elim}
use Rattle.std.specs.Prelude.{◌||◌, Ok, is_some}
use Rattle.std.specs.List.{All, AllZip, filter}
use Rattle.std.specs.Ordering.{int_cmp, is_eq}
use Rattle.std.proofs.lemmas.Int.{ints}
use Rattle.std.proofs.lemmas.List.Elements.{filter_passes, All-filter, All-cons, All-nil, All-head, All-tail, All-from_recursion}
use Rattle.std.proofs.lemmas.Int.{unsigned_abs-mul}
use Rattle.std.proofs.Math.Nat.{mul-le-mul_left}
use Rattle.lie_datum.specs.Vectors.{Vector, plus, times, minus}
use Rattle.lie_datum.specs.RootList.{RootDatum, IsLoaded, IsNumber, root_of}
use Rattle.lie_datum.proofs.SignedRoots.{number_is, root_is}
use Rattle.lie_datum.proofs.VectorLemmas.{abs_mul}
use Rattle.lie_const.specs.declared.term.Term.{Term}
use Rattle.lie_const.specs.StructureConstants.{Table, StandsFor, coeffs_of, find_root, same_vector, IsSum}
use Rattle.lie_const.specs.CommutatorTerms.{number_of, value_at, string_product, sign, coefficient, Fraction, IsValue, exponents, term_vector, term_exponents, IsTerm, AreTerms, IsPair}
use Rattle.lie_const.specs.ConstantTables.{ConstantTable, LoadsConstants, value_of, terms_of}
use Rattle.lie_const.proofs.ChainLemmas.{value_absent_left, value_absent_right}
use Rattle.lie_const.proofs.Decisions.{root_or}
use Rattle.lie_const.proofs.FoundRoots.{number_of_or, number_of_is, find_root_none}
use Rattle.lie_const.proofs.SumLemmas.{not_opposite}
use Rattle.lie_weight.proofs.BoundLemmas.{constant_small}
use Rattle.lie_identities.specs.Sides.{IsSmallTerm}

-- a vector that is found among the roots has a number
found_number : (d : RootDatum) → IsLoaded d → (u : Vector) → is_some (find_root d u) ≡ true → IsNumber d (number_of d u)
found_number d loaded u e = ⊎_elim
    (λ f. (let t = number_is d loaded f.0 f.1 in
    let g = number_of_is d loaded t.0 u t.1 (ap (λ z. z.coeffs) t.2 ∙ f.2) in
    subst (IsNumber d) (sym g) t.1))
    (λ f. (let none = find_root_none d loaded u (λ r p q. f (r, p, q)) in
    let no : false ≡ true = ap is_some (sym none) ∙ e in cc))
    (root_or d loaded u)

module _ (d : RootDatum) (loaded : IsLoaded d) (n : Table) (stands : StandsFor d n) where
  -- a constant is at most 4, also at opposite roots
  all_small : (r s : ℤ) → IsNumber d r → IsNumber d s → unsigned_abs (n r s) ≤ 4
  all_small r s a b = ⊎_elim
      (λ h. (let k = number_is d loaded h.0 h.1 in
      let sum : IsSum d r s k.0 = record { left = a; right = b; number = k.1; is = ap (λ t. t.coeffs) k.2 ∙ h.2 } in
      constant_small d loaded n stands r s a b (not_opposite d loaded r s k.0 sum)))
      (λ f. (let e = stands.signs.none r s a b (λ k h. f (root_of d k, root_is d loaded k h.number, h.is)) in subst (λ x. unsigned_abs x ≤ 4) (sym e) (omega arith)))
      (root_or d loaded (plus (coeffs_of d r) (coeffs_of d s)))

  either_small : (b : Bool) (x : ℤ) → unsigned_abs x ≤ 4 → unsigned_abs (cond b (pos 0) x) ≤ 4
  either_small true x l = omega arith
  either_small false x l = l

  none_small : (x : ℤ) → x ≡ pos 0 → unsigned_abs x ≤ 4
  none_small x e = subst (λ y. unsigned_abs y ≤ 4) (sym e) (omega arith)

  -- so is that of two vectors
  value_small : (u v : Vector) → unsigned_abs (value_at d n u v) ≤ 4
  value_small u v = ⊎_elim
      (λ x. ⊎_elim
      (λ y. either_small (is_eq (int_cmp (number_of d u) (pos 0)) || is_eq (int_cmp (number_of d v) (pos 0)) || same_vector u (minus v)) (n (number_of d u) (number_of d v)) (all_small (number_of d u) (number_of d v) x.0 y.0))
      (λ y. none_small (value_at d n u v) (value_absent_right d n u v y)) (number_of_or d loaded v))
      (λ x. none_small (value_at d n u v) (value_absent_left d n u v x)) (number_of_or d loaded u)

  -- a product of constants along a string
  chain_more : (u v : Vector) (i m : ℕ) → unsigned_abs (string_product d n u v i) ≤ m → unsigned_abs (string_product d n u v (suc i)) ≤ m * 4
  chain_more u v i m l = abs_mul (string_product d n u v i) (value_at d n u (plus (times (pos i) u) v)) m 4 l (value_small u (plus (times (pos i) u) v))

  chain_none : (u v : Vector) → unsigned_abs (string_product d n u v 0) ≤ 1
  chain_none u v = omega arith

  chain_two : (u v : Vector) → unsigned_abs (string_product d n u v 2) ≤ 16
  chain_two u v = chain_more u v 1 4 (chain_more u v 0 1 (chain_none u v))

  chain_small : (u v : Vector) (i : ℕ) → i ≤ 3 → unsigned_abs (string_product d n u v i) ≤ 64
  chain_small u v zero l = omega arith
  chain_small u v (suc zero) l = let h = chain_more u v 0 1 (chain_none u v) in omega (arith, h)
  chain_small u v (suc (suc zero)) l = let h = chain_two u v in omega (arith, h)
  chain_small u v (suc (suc (suc zero))) l = chain_more u v 2 16 (chain_two u v)
  chain_small u v (suc (suc (suc (suc i)))) l = absurd (omega arith)

  -- a fraction whose part above is small, and whose part below is not 0
  abbrev IsSmallFraction : Fraction → Type 0
  IsSmallFraction f = (unsigned_abs f.above ≤ 64) × (1 ≤ f.below)

  -- exponents of at most 3 with a small coefficient
  abbrev AreSmall : Vector → Vector → ℕ × ℕ → Type 0
  AreSmall u v e = (e.0 ≤ 3) × (e.1 ≤ 3) × IsSmallFraction (coefficient d n u v e.0 e.1)

  signed_small : (k : ℕ) (x : ℤ) → unsigned_abs x ≤ 64 → unsigned_abs (sign k *ℤ x) ≤ 64
  signed_small k x l = let h = abs_mul (sign k) x 1 64 (sign_small k) l in omega (arith, h)
    where
      turned_small : (y : ℤ) → unsigned_abs y ≤ 1 → unsigned_abs (neg_ℤ y) ≤ 1
      turned_small y l = omega (arith, ints, l)

      sign_small : (k : ℕ) → unsigned_abs (sign k) ≤ 1
      sign_small zero = omega arith
      sign_small (suc k) = turned_small (sign k) (sign_small k)

  all_exponents : (u v : Vector) → All (AreSmall u v) exponents
  all_exponents u v = All-from_recursion (AreSmall u v) exponents (
    (omega arith, omega arith, (chain_small u v 1 (omega arith), omega arith)),
    (
      (omega arith, omega arith, (signed_small 2 (string_product d n v u 2) (chain_small v u 2 (omega arith)), omega arith)),
      (
        (omega arith, omega arith, (chain_small u v 2 (omega arith), omega arith)),
        (
          (omega arith, omega arith, (signed_small 3 (string_product d n v u 3) (chain_small v u 3 (omega arith)), omega arith)),
          (
            (omega arith, omega arith, (chain_small u v 3 (omega arith), omega arith)),
            (
              (omega arith, omega arith, (twice_small, omega arith)),
              ((omega arith, omega arith, (chain_small (plus u v) u 2 (omega arith), omega arith)), tt),
            ),
          ),
        ),
      ),
    ),
  )
    where
      twice_small : unsigned_abs (negsuc 1 *ℤ string_product d n (plus v u) v 2) ≤ 64
      twice_small = let h = abs_mul (negsuc 1) (string_product d n (plus v u) v 2) 2 16 (omega arith) (chain_two (plus v u) v) in omega (arith, h)

  value_within : (c : ℤ) (f : Fraction) → IsValue c f → IsSmallFraction f → nat_abs c ≤ 64
  value_within c f e h = bounded c f.below (subst (λ x. unsigned_abs x ≤ 64) (sym e) h.0) h.1
    where
      bounded : (c : ℤ) (m : ℕ) → unsigned_abs (c *ℤ pos m) ≤ 64 → 1 ≤ m → nat_abs c ≤ 64
      bounded c m l p =
          let a : unsigned_abs (c *ℤ pos m) ≡ unsigned_abs c * m = unsigned_abs-mul c (pos m) in
          let g = mul-le-mul_left (unsigned_abs c) p in
          omega (arith, a, g, l)

  -- what the terms of two vectors have
  terms_small : (r s : ℤ) (es : List (ℕ × ℕ)) (ts : List Term) → AllZip (IsTerm d n r s) es ts → All (AreSmall (coeffs_of d r) (coeffs_of d s)) es → All IsSmallTerm ts
  terms_small r s [] [] z a = All-nil IsSmallTerm
  terms_small r s [] (t ∷ ts) z a = absurd z
  terms_small r s (e ∷ es) [] z a = absurd z
  terms_small r s (e ∷ es) (t ∷ ts) z a =
      let P = AreSmall (coeffs_of d r) (coeffs_of d s) in
      let h = All-head P e es a in
      let at = z.0 in
      All-cons IsSmallTerm t ts
      (record {
        i = subst (λ k. k ≤ 3) (sym at.i) h.0;
        j = subst (λ k. k ≤ 3) (sym at.j) h.1;
        value = value_within t.value (coefficient d n (coeffs_of d r) (coeffs_of d s) e.0 e.1) at.value h.2;
      })
      (terms_small r s es ts z.1 (All-tail P e es a))

  pub small_terms : (r s : ℤ) (ts : List Term) → AreTerms d n r s ts → All IsSmallTerm ts
  small_terms r s ts h =
      terms_small r s (term_exponents d r s) ts h
      (All-filter (λ e. is_some (find_root d (term_vector d r s e))) (AreSmall (coeffs_of d r) (coeffs_of d s)) exponents (all_exponents (coeffs_of d r) (coeffs_of d s)))

-- there are at most seven
terms_few : (d : RootDatum) (n : Table) (r s : ℤ) (ts : List Term) → AreTerms d n r s ts → length ts ≤ 7
terms_few d n r s ts h =
    let test = λ (e : ℕ × ℕ). is_some (find_root d (term_vector d r s e)) in
    let same = zip_length (IsTerm d n r s) (term_exponents d r s) ts h in
    let fewer = length-filter test exponents in
    omega (arith, same, fewer)
  where
    zip_length : {A B : Type 0} (P : A → B → Type 0) (es : List A) (ts : List B) → AllZip P es ts → length es ≡ length ts
    zip_length P [] [] z = refl
    zip_length P [] (t ∷ ts) z = absurd z
    zip_length P (e ∷ es) [] z = absurd z
    zip_length P (e ∷ es) (t ∷ ts) z = let h = zip_length P es ts z.1 in omega (arith, h)

    length-filter : (test : ℕ × ℕ → Bool) (es : List (ℕ × ℕ)) → length (filter test es) ≤ length es
    length-filter test [] = omega arith
    length-filter test (e ∷ es) = by (test e) (length-filter test es)
      where
        by : (b : Bool) → length (filter test es) ≤ length es → length (cond b (e ∷ filter test es) (filter test es)) ≤ length (e ∷ es)
        by true h = omega (arith, h)
        by false h = omega (arith, h)

-- the terms of a table that stands for a datum
pub table_terms_small : (d : RootDatum) → IsLoaded d → (c : ConstantTable) → LoadsConstants d (Ok c) → (r s : ℤ) → IsPair d r s → All IsSmallTerm (terms_of c r s)
table_terms_small d loaded c h r s p = small_terms d loaded (value_of c) h.1 r s (terms_of c r s) (h.2 r s p)

pub table_terms_few : (d : RootDatum) (c : ConstantTable) → LoadsConstants d (Ok c) → (r s : ℤ) → IsPair d r s → length (terms_of c r s) ≤ 7
table_terms_few d c h r s p = terms_few d (value_of c) r s (terms_of c r s) (h.2 r s p)

-- each is about a root
pub table_terms_number : (d : RootDatum) → IsLoaded d → (c : ConstantTable) → LoadsConstants d (Ok c) → (r s : ℤ) → IsPair d r s → All (λ t. IsNumber d t.root) (terms_of c r s)
table_terms_number d loaded c h r s p = numbers (term_exponents d r s) (terms_of c r s) (h.2 r s p) (filter_passes test exponents)
  where
    test : ℕ × ℕ → Bool
    test e = is_some (find_root d (term_vector d r s e))

    numbers : (es : List (ℕ × ℕ)) (ts : List Term) → AllZip (IsTerm d (value_of c) r s) es ts → All (λ e. is_some (find_root d (term_vector d r s e)) ≡ true) es → All (λ t. IsNumber d t.root) ts
    numbers [] [] z a = All-nil (λ t. IsNumber d t.root)
    numbers [] (t ∷ ts) z a = absurd z
    numbers (e ∷ es) [] z a = absurd z
    numbers (e ∷ es) (t ∷ ts) z a =
        let P = λ (e : ℕ × ℕ). is_some (find_root d (term_vector d r s e)) ≡ true in
        All-cons (λ t. IsNumber d t.root) t ts
        (subst (IsNumber d) (sym z.0.root) (found_number d loaded (term_vector d r s e) (All-head P e es a)))
        (numbers es ts z.1 (All-tail P e es a))
