-- The square of a root's length is positive, and at most 2160.
use Rattle.std.proofs.Common.{◌≡◌, ◌≢◌, ℕ, zero, suc, ◌*◌, ◌≤◌, ℤ, pos, negsuc, neg_ℤ, ◌*ℤ◌, ◌≤ℤ◌, ◌<ℤ◌, Bool, true, false, List, [], ◌∷◌, length, refl, sym, ap, subst, ◌∙◌, arith, unsigned_abs, ◌⊎◌, inl, inr, ⊎_elim, lit<}
use Rattle.std.proofs.lemmas.Int.{ints, by_lt_z}
use Rattle.lie_datum.specs.Vectors.{pairing, total}
use Rattle.lie_datum.specs.RootDatum.{Root, IsRoot, vector, covector, root_pairing, opposite}
use Rattle.lie_datum.specs.RootList.{RootDatum, IsLoaded, all_roots, length2}
use Rattle.lie_base.proofs.RingSolver.{ring, var, neg, ◌⊗◌}
use Rattle.lie_base.proofs.Members.{In, here, there}
use Rattle.lie_datum.proofs.Squares.{square_within, factor_not_negative}
use Rattle.lie_datum.proofs.FormLaw.{form_comm}
use Rattle.lie_datum.proofs.Turns.{pairing-combination-times}
use mir.Val.{to_z, of_z}
use mir.Syntax.{w128}
use Rattle.lie_datum.proofs.VectorLemmas.{abs_mul, plain}
use Rattle.lie_datum.proofs.RootEquality.{root_eq, equal_roots, root_eq-refl}
use Rattle.lie_datum.proofs.ClosureLemmas.{pigeonhole, in_from_contains}
use Rattle.lie_datum.proofs.LoadedLaws.{all_only, all_in, all_simple, self, first, second_product}

-- roots are equal or not
pub same_or_not : (r s : Root) → (r ≡ s) ⊎ (¬ (r ≡ s))
same_or_not r s = by (root_eq r s) refl
  where
    by : (t : Bool) → root_eq r s ≡ t → (r ≡ s) ⊎ (¬ (r ≡ s))
    by true e = inl (equal_roots r s e)
    by false e = inr (λ p. (let f = ap (root_eq r) p ∙ e in let g = root_eq-refl r in cc))

-- the product of positive numbers is positive
pub product_positive : (a b : ℤ) → pos 0 <ℤ a → pos 0 <ℤ b → pos 0 <ℤ (a *ℤ b)
product_positive a b p q = by_lt_z (pos 0) (a *ℤ b) (λ l. l)
    (λ l. (let e = ring (a ∷ (b ∷ [])) (neg (var 0) ⊗ var 1) (neg (var 0 ⊗ var 1)) refl in
    let h = factor_not_negative (neg_ℤ a) b q (omega (arith, ints, l, e)) in absurd (omega (arith, ints, h, p))))

-- two factors of one sign, with a product of at most 3
up_to_three : (a b : ℕ) → (pos (suc a) *ℤ pos (suc b)) ≤ℤ pos 3 → suc a ≤ 3
up_to_three a b h = omega (arith, ints, h)

positive_factor : (a : ℕ) (m s r : ℤ) → pos 0 <ℤ s → pos 0 <ℤ r → pos (suc a) *ℤ s ≡ m *ℤ r → (pos (suc a) *ℤ m) ≤ℤ pos 3 → suc a ≤ 3
positive_factor a (pos (suc b)) s r p q e h = up_to_three a b h
positive_factor a (pos zero) s r p q e h = let l = product_positive (pos (suc a)) s (omega (arith, ints)) p in absurd (omega (arith, ints, l, e))
positive_factor a (negsuc b) s r p q e h =
    let l = product_positive (pos (suc a)) s (omega (arith, ints)) p in
    let k = product_positive (pos (suc b)) r (omega (arith, ints)) q in
    let f = ring (pos (suc b) ∷ (r ∷ [])) (neg (var 0) ⊗ var 1) (neg (var 0 ⊗ var 1)) refl in
    absurd (omega (arith, ints, l, k, e, f))

-- of two numbers in the ratio of two positive numbers, with a product of at most 3, the first is at most 3
pub factor_small : (n m s r : ℤ) → pos 0 <ℤ s → pos 0 <ℤ r → n *ℤ s ≡ m *ℤ r → (n *ℤ m) ≤ℤ pos 3 → unsigned_abs n ≤ 3
factor_small (pos zero) m s r p q e h = omega arith
factor_small (pos (suc a)) m s r p q e h = positive_factor a m s r p q e h
factor_small (negsuc a) m s r p q e h =
    let x = ring (negsuc a ∷ (s ∷ [])) (neg (var 0) ⊗ var 1) (neg (var 0 ⊗ var 1)) refl in
    let y = ring (m ∷ (r ∷ [])) (neg (var 0) ⊗ var 1) (neg (var 0 ⊗ var 1)) refl in
    let z = ring (negsuc a ∷ (m ∷ [])) (neg (var 0) ⊗ neg (var 1)) (var 0 ⊗ var 1) refl in
    positive_factor a (neg_ℤ m) s r p q (x ∙ ap neg_ℤ e ∙ sym y) (subst (λ t. t ≤ℤ pos 3) (sym z) h)

-- a square of at most 9
square_small : (n : ℤ) → unsigned_abs n ≤ 3 → (n *ℤ n) ≤ℤ pos 9
square_small n h = below (n *ℤ n) (abs_mul n n 3 3 h h)
  where
    below : (z : ℤ) → unsigned_abs z ≤ 9 → z ≤ℤ pos 9
    below (pos k) l = omega (arith, ints, l)
    below (negsuc k) l = omega (arith, ints)

-- a sum of numbers that are at most n
total_below : {A : Type 0} (f : A → ℤ) (n : ℕ) (xs : List A) → ((x : A) → In x xs → f x ≤ℤ pos n) → total f xs ≤ℤ pos (n * length xs)
total_below f n [] h = omega (arith, ints)
total_below f n (x ∷ xs) h = let l = total_below f n xs (λ y p. h y (there p)) in let k = h x (here refl) in omega (arith, ints, l, k)

module _ (d : RootDatum) (loaded : IsLoaded d) where
  -- the square of a root's length is positive, since a root pairs with its own coroot to 2
  pub length_positive : (r : Root) → IsRoot d.base r → pos 0 <ℤ length2 d r
  length_positive r p =
      let f : Root → ℤ = λ s. pairing (vector d.base r) (covector d.base s) in
      let least = square_within f r (all_roots d) (all_in d loaded r p) in
      let two = ap (λ t. t *ℤ f r) (self d loaded r p) ∙ ap (λ t. pos 2 *ℤ t) (self d loaded r p) in
      omega (arith, ints, least, two)

  -- the pairing of a root with a coroot is at most 3
  pub pairing_small : (r s : Root) → IsRoot d.base r → IsRoot d.base s → unsigned_abs (root_pairing d.base r s) ≤ 3
  pairing_small r s p q = ⊎_elim (λ e. same e) (λ n. ⊎_elim (λ e. turned e) (λ m. apart n m) (same_or_not r (opposite s))) (same_or_not r s)
    where
      same : r ≡ s → unsigned_abs (root_pairing d.base r s) ≤ 3
      same e = let two = ap (root_pairing d.base r) (sym e) ∙ self d loaded r p in subst (λ t. unsigned_abs t ≤ 3) (sym two) (omega arith)

      ratio : (t : Root) → IsRoot d.base t → root_pairing d.base r t *ℤ length2 d t ≡ root_pairing d.base t r *ℤ length2 d r
      ratio t w =
          sym ((first d loaded t w).0 (vector d.base r)) ∙ ap (λ u. pos 2 *ℤ u) (form_comm d.base (all_roots d) (vector d.base r) (vector d.base t)) ∙ (first d loaded r p).0 (vector d.base t)

      apart : r ≢ s → r ≢ opposite s → unsigned_abs (root_pairing d.base r s) ≤ 3
      apart n m =
          factor_small (root_pairing d.base r s) (root_pairing d.base s r) (length2 d s) (length2 d r) (length_positive s q) (length_positive r p) (ratio s q) (second_product d loaded r s p q n m)

      turned : r ≡ opposite s → unsigned_abs (root_pairing d.base r s) ≤ 3
      turned e =
          let two = ap (λ t. root_pairing d.base t s) e ∙ pairing-combination-times (negsuc 0) s.coeffs d.base.roots (covector d.base s) ∙ ap (λ t. negsuc 0 *ℤ t) (self d loaded s q) in
          subst (λ t. unsigned_abs t ≤ 3) (sym two) (omega arith)

  -- at most 240 squares of at most 9
  pub norm_bound : (r : Root) → IsRoot d.base r → length2 d r ≤ℤ pos 2160
  norm_bound r p =
      let most = total_below (λ s. root_pairing d.base r s *ℤ root_pairing d.base r s) 9 (all_roots d) (λ s q. square_small (root_pairing d.base r s) (pairing_small r s p (all_only d loaded s q))) in
      let f = loaded.axioms.finite in
      let few = pigeonhole (all_roots d) f.count.0 (all_simple d loaded) (λ s q. in_from_contains f.count.0 s (f.count.2 s (all_only d loaded s q))) in
      let count = f.count.1 in
      omega (arith, ints, most, few, count)

  -- what the code keeps of it
  pub norm_kept : (r : Root) (z : ℤ) → IsRoot d.base r → z ≡ length2 d r → (pos 0 <ℤ to_z w128 (of_z w128 z)) × (to_z w128 (of_z w128 z) ≤ℤ pos 2160)
  norm_kept r z p e =
      let low = length_positive r p in
      let high = norm_bound r p in
      let is = plain z 2160 (abs_of z (omega (arith, ints, low, e)) (omega (arith, ints, high, e))) (lit< tt) in
      (rw is (rw e low), rw is (rw e high))
    where
      abs_of : (z : ℤ) → pos 0 <ℤ z → z ≤ℤ pos 2160 → unsigned_abs z ≤ 2160
      abs_of (pos k) p q = omega (arith, ints, q)
      abs_of (negsuc k) p q = absurd (omega (arith, ints, p))
