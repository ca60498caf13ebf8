-- The vectors k r + s for roots r and s that are neither equal nor opposite.
use Rattle.std.proofs.Common.{◌≡◌, ◌≢◌, ℕ, zero, suc, ℤ, pos, negsuc, neg_ℤ, ◌*ℤ◌, ◌+ℤ◌, ◌≤ℤ◌, List, [], ◌∷◌, map, length, refl, sym, ap, ap₂, subst, ◌∙◌, arith, cond, Bool, true, false, ◌||◌}
use Rattle.std.proofs.Math.IntN.{zero-*ℤ, +ℤ_idl}
use Rattle.std.proofs.lemmas.Int.{ints}
use Rattle.std.specs.Ordering.{int_cmp, is_eq}
use Rattle.lie_base.proofs.RingSolver.{ring, var, num, neg, ◌⊕◌, ◌⊗◌}
use Rattle.lie_datum.specs.Vectors.{Vector, pairing, plus, times, minus, combination, entry}
use Rattle.lie_datum.specs.RootDatum.{covector, root_pairing, opposite}
use Rattle.lie_datum.specs.RootList.{RootDatum, IsLoaded, IsNumber, root_of, IsRootVector}
use Rattle.lie_datum.proofs.Entries.{entry-plus, entry-times, length-plus, length-times, same_entries}
use Rattle.lie_datum.proofs.Linear.{pairing-combination, pairing-times}
use Rattle.lie_datum.proofs.LoadedLaws.{self, second_product}
use Rattle.lie_datum.proofs.SignedRoots.{root_is, opposite_number}
use Rattle.lie_const.specs.StructureConstants.{Table, coeffs_of, same_vector}
use Rattle.lie_const.specs.CommutatorTerms.{number_of, value_at, IsPair}
use Rattle.lie_const.proofs.SumLemmas.{long, neg_number}
use Rattle.lie_weight.proofs.NumberOf.{one_number, number_of-root, number_of-none, is_eq-no, same_vector-no}

-- k r + s
abbrev pub line : Vector → Vector → ℕ → Vector
line r s k = plus (times (pos k) r) s

pairing-multiple : (c : ℤ) (x : Vector) (vs : List Vector) (y : Vector) → pairing (combination (times c x) vs) y ≡ c *ℤ pairing (combination x vs) y
pairing-multiple c x vs y =
    pairing-combination (times c x) vs y ∙ pairing-times c x (map (λ v. pairing v y) vs) ∙ ap (λ t. c *ℤ t) (sym (pairing-combination x vs y))

-- no four is at most three
too_large : (a b c : ℤ) → (a *ℤ b) ≤ℤ pos 3 → b ≡ c *ℤ pos 2 → pos 2 ≡ c *ℤ a → ⊥
too_large a b c h e f =
    let product : a *ℤ b ≡ pos 4 = ap (λ t. a *ℤ t) e ∙ ring (a ∷ (c ∷ [])) (var 0 ⊗ (var 1 ⊗ num (pos 2))) (num (pos 2) ⊗ (var 1 ⊗ var 0)) refl ∙ ap (λ t. pos 2 *ℤ t) (sym f) in
    let four : pos 4 ≤ℤ pos 3 = subst (λ t. t ≤ℤ pos 3) product h in
    absurd (omega (arith, ints, four))

module _ (d : RootDatum) (loaded : IsLoaded d) where
  -- a root that is a multiple of a root is that root or its opposite
  pub multiple : (r s : ℤ) (c : ℤ) → IsNumber d r → IsNumber d s → coeffs_of d s ≡ times c (coeffs_of d r) → s ≢ r → s ≢ neg_ℤ r → ⊥
  multiple r s c m n e o p =
      let R = root_of d r in
      let S = root_of d s in
      let a = root_is d loaded r m in
      let b = root_is d loaded s n in
      let unequal : R ≢ S = λ q. o (one_number d loaded s r n m (ap (λ t. t.coeffs) (sym q))) in
      let independent : R ≢ opposite S = λ q. p (flip (one_number d loaded r (neg_ℤ s) m (neg_number d loaded s n) (ap (λ t. t.coeffs) (q ∙ sym (opposite_number d s n).1)))) in
      too_large (root_pairing d.base R S) (root_pairing d.base S R) c (second_product d loaded R S a b unequal independent)
      (ap (λ v. pairing (combination v d.base.roots) (covector d.base R)) e ∙ pairing-multiple c R.coeffs d.base.roots (covector d.base R) ∙ ap (λ t. c *ℤ t) (self d loaded R a))
      (sym (self d loaded S b) ∙ ap (λ v. pairing (combination v d.base.roots) (covector d.base S)) e ∙ pairing-multiple c R.coeffs d.base.roots (covector d.base S))
    where
      flip : r ≡ neg_ℤ s → s ≡ neg_ℤ r
      flip q = let t = q in omega (arith, ints, t)

  module _ (r s : ℤ) (pair : IsPair d r s) where
    pub line-length : (k : ℕ) → length (line (coeffs_of d r) (coeffs_of d s) k) ≡ 8
    line-length k = length-plus (times (pos k) (coeffs_of d r)) (coeffs_of d s) 8 (length-times (pos k) (coeffs_of d r) ∙ long d loaded r pair.left) (long d loaded s pair.right)

    -- k r + s is no multiple of r
    pub off_line : (k : ℕ) (c : ℤ) → line (coeffs_of d r) (coeffs_of d s) k ≡ times c (coeffs_of d r) → ⊥
    off_line k c e =
        multiple r s (c +ℤ neg_ℤ (pos k)) pair.left pair.right
        (same_entries (coeffs_of d s) (times (c +ℤ neg_ℤ (pos k)) (coeffs_of d r)) (long d loaded s pair.right ∙ sym (length-times (c +ℤ neg_ℤ (pos k)) (coeffs_of d r) ∙ long d loaded r pair.left))
        (λ j. solve (entry (coeffs_of d r) j) (entry (coeffs_of d s) j) (pos k) c (entry (line (coeffs_of d r) (coeffs_of d s) k) j)
        (entry-plus (times (pos k) (coeffs_of d r)) (coeffs_of d s) j ∙ ap (λ t. t +ℤ entry (coeffs_of d s) j) (entry-times (pos k) (coeffs_of d r) j))
        (ap (λ v. entry v j) e ∙ entry-times c (coeffs_of d r) j)
        ∙ sym (entry-times (c +ℤ neg_ℤ (pos k)) (coeffs_of d r) j)))
        pair.unequal pair.independent
      where
        solve : (x y k c z : ℤ) → z ≡ k *ℤ x +ℤ y → z ≡ c *ℤ x → y ≡ (c +ℤ neg_ℤ k) *ℤ x
        solve x y k c z p q =
            let f = ring (x ∷ (k ∷ (c ∷ []))) ((var 2 ⊕ neg (var 1)) ⊗ var 0) (var 2 ⊗ var 0 ⊕ neg (var 1 ⊗ var 0)) refl in
            omega (arith, ints, p, q, f)

    -- a root on the line is neither r nor its opposite
    pub on_line-unequal : (k : ℕ) (u : ℤ) → IsNumber d u → coeffs_of d u ≡ line (coeffs_of d r) (coeffs_of d s) k → u ≢ r
    on_line-unequal k u n e q = off_line k (pos 1) (sym e ∙ ap (coeffs_of d) q
        ∙ same_entries (coeffs_of d r) (times (pos 1) (coeffs_of d r)) (sym (length-times (pos 1) (coeffs_of d r))) (λ j. once (entry (coeffs_of d r) j) ∙ sym (entry-times (pos 1) (coeffs_of d r) j)))
      where
        once : (x : ℤ) → x ≡ pos 1 *ℤ x
        once x = omega (arith, ints)

    pub on_line-independent : (k : ℕ) (u : ℤ) → IsNumber d u → coeffs_of d u ≡ line (coeffs_of d r) (coeffs_of d s) k → u ≢ neg_ℤ r
    on_line-independent k u n e q = off_line k (negsuc 0) (sym e ∙ ap (coeffs_of d) q ∙ ap (λ t. t.coeffs) (opposite_number d r pair.left).1)

    -- (k + 1) r + s = r + (k r + s)
    pub line-next : (k : ℕ) → line (coeffs_of d r) (coeffs_of d s) (suc k) ≡ plus (coeffs_of d r) (line (coeffs_of d r) (coeffs_of d s) k)
    line-next k =
        let R = coeffs_of d r in
        let S = coeffs_of d s in
        same_entries (line R S (suc k)) (plus R (line R S k)) (line-length (suc k) ∙ sym (length-plus R (line R S k) 8 (long d loaded r pair.left) (line-length k)))
        (λ j. entry-plus (times (pos (suc k)) R) S j ∙ ap (λ t. t +ℤ entry S j) (entry-times (pos (suc k)) R j)
        ∙ more (entry R j) (entry S j) k
        ∙ sym (entry-plus R (line R S k) j ∙ ap (λ t. entry R j +ℤ t) (entry-plus (times (pos k) R) S j ∙ ap (λ t. t +ℤ entry S j) (entry-times (pos k) R j))))
      where
        more : (x y : ℤ) (k : ℕ) → pos (suc k) *ℤ x +ℤ y ≡ x +ℤ (pos k *ℤ x +ℤ y)
        more x y k =
            let one : pos (suc k) ≡ pos 1 +ℤ pos k = omega (arith, ints) in
            ap (λ t. t *ℤ x +ℤ y) one ∙ ring (x ∷ (y ∷ (pos k ∷ []))) ((num (pos 1) ⊕ var 2) ⊗ var 0 ⊕ var 1) (var 0 ⊕ (var 2 ⊗ var 0 ⊕ var 1)) refl

    -- 0 r + s = s
    pub line-none : line (coeffs_of d r) (coeffs_of d s) 0 ≡ coeffs_of d s
    line-none = same_entries (line (coeffs_of d r) (coeffs_of d s) 0) (coeffs_of d s) (line-length 0 ∙ sym (long d loaded s pair.right))
        (λ j. entry-plus (times (pos 0) (coeffs_of d r)) (coeffs_of d s) j ∙ ap (λ t. t +ℤ entry (coeffs_of d s) j) (entry-times (pos 0) (coeffs_of d r) j ∙ zero-*ℤ (entry (coeffs_of d r) j)) ∙ +ℤ_idl (entry (coeffs_of d s) j))

    module _ (n : Table) where
      -- the value of N at r and a root on the line
      pub value-root : (k : ℕ) (u : ℤ) → IsNumber d u → coeffs_of d u ≡ line (coeffs_of d r) (coeffs_of d s) k → value_at d n (coeffs_of d r) (line (coeffs_of d r) (coeffs_of d s) k) ≡ n r u
      value-root k u m e =
          let V = line (coeffs_of d r) (coeffs_of d s) k in
          let a = number_of-root d loaded (coeffs_of d r) r pair.left refl in
          let b = number_of-root d loaded V u m e in
          let apart = same_vector-no (coeffs_of d r) (minus V) (λ q. on_line-independent k u m e (flip (one_number d loaded r (neg_ℤ u) pair.left (neg_number d loaded u m)
          (q ∙ ap minus (sym e) ∙ ap (λ t. t.coeffs) (sym (opposite_number d u m).1))))) in
          ap₂ (λ x y. cond (is_eq (int_cmp x (pos 0)) || is_eq (int_cmp y (pos 0)) || same_vector (coeffs_of d r) (minus V)) (pos 0) (n x y)) a b
          ∙ ap₂ (λ x y. cond (x || y || same_vector (coeffs_of d r) (minus V)) (pos 0) (n r u)) (is_eq-no r (pos 0) (not_zero r pair.left)) (is_eq-no u (pos 0) (not_zero u m))
          ∙ ap (λ x. cond x (pos 0) (n r u)) apart
        where
          flip : r ≡ neg_ℤ u → u ≡ neg_ℤ r
          flip q = let t = q in omega (arith, ints, t)

          not_zero : (k : ℤ) → IsNumber d k → k ≢ pos 0
          not_zero (pos zero) n e = cc
          not_zero (pos (suc j)) n e = cc
          not_zero (negsuc j) n e = cc

      -- and 0 where k r + s is no root
      pub value-none : (k : ℕ) → ¬ IsRootVector d (line (coeffs_of d r) (coeffs_of d s) k) → value_at d n (coeffs_of d r) (line (coeffs_of d r) (coeffs_of d s) k) ≡ pos 0
      value-none k f =
          let V = line (coeffs_of d r) (coeffs_of d s) k in
          ap (λ y. cond (is_eq (int_cmp (number_of d (coeffs_of d r)) (pos 0)) || is_eq (int_cmp y (pos 0)) || same_vector (coeffs_of d r) (minus V)) (pos 0) (n (number_of d (coeffs_of d r)) y)) (number_of-none d loaded V f)
          ∙ either (is_eq (int_cmp (number_of d (coeffs_of d r)) (pos 0)))
        where
          either : (t : Bool) → cond (t || true || same_vector (coeffs_of d r) (minus (line (coeffs_of d r) (coeffs_of d s) k))) (pos 0) (n (number_of d (coeffs_of d r)) (pos 0)) ≡ pos 0
          either true = refl
          either false = refl
