-- The entries of root elements and of Weyl representatives as sums.
use Rattle.std.proofs.Common.{◌≡◌, ℕ, suc, ◌+◌, ◌<◌, ℤ, pos, negsuc, neg_ℤ, ◌+ℤ◌, ◌*ℤ◌, cond, Bool, true, false, eqb, refl, ap, ap₂, ◌∙◌, arith}
use mathlib.Core.Bool.{not, beq}
use Rattle.std.proofs.lemmas.Int.{ints}
use Rattle.lie_ring.specs.Rings.{sum_below}
use Rattle.lie_ring.specs.Integers.{integers}
use Rattle.lie_ring.specs.Powers.{power}
use Rattle.lie_ring.specs.Matrices.{entry, product, product_entry}
use Rattle.lie_ring.specs.MatrixLemmas.{entry-table}
use Rattle.lie_ring.specs.SumLemmas.{sum-same}
use Rattle.lie_const.specs.Modules.{Module, dimension, divided_power, root_element_entry, root_element, weyl_element}
use Rattle.lie_audit.specs.SignParts.{unit}

module _ (v : Module) (r : ℤ) (t : ℤ) (row col : ℕ) where
  -- what E_r^(k+1) adds
  abbrev pub added : ℕ → ℤ
  added k = power integers t (suc k) *ℤ entry (pos 0) (divided_power v r (suc k)) row col

  -- one power more
  pub entry-more : (k : ℕ) (s p e new : ℤ) → s ≡ cond (eqb row col) (pos 1) (pos 0) +ℤ sum_below integers k added → p ≡ power integers t (suc k) → e ≡ entry (pos 0) (divided_power v r (k + 1)) row col → new ≡ s +ℤ p *ℤ e →
      new ≡ cond (eqb row col) (pos 1) (pos 0) +ℤ sum_below integers (k + 1) added
  entry-more k s p e new a b c d =
      let one : suc k ≡ k + 1 = omega arith in
      let back : k + 1 ≡ suc k = omega arith in
      let entries = c ∙ ap (λ m. entry (pos 0) (divided_power v r m) row col) back in
      d ∙ ap₂ (λ x y. x +ℤ y) a (ap₂ (λ x y. x *ℤ y) b entries) ∙ moved (cond (eqb row col) (pos 1) (pos 0)) (sum_below integers k added) (added k)
      ∙ ap (λ m. cond (eqb row col) (pos 1) (pos 0) +ℤ sum_below integers m added) one
    where
      moved : (x y z : ℤ) → x +ℤ y +ℤ z ≡ x +ℤ (y +ℤ z)
      moved x y z = omega (arith, ints)

-- the product of two signs
pub unit-other : (a b : Bool) → unit (not (beq a b)) ≡ unit a *ℤ unit b
unit-other true true = refl
unit-other true false = refl
unit-other false true = refl
unit-other false false = refl

-- and one power more
pub power-more : (k : ℕ) (a b : Bool) → unit a ≡ power integers (unit b) (suc k) → unit (not (beq a b)) ≡ power integers (unit b) (k + 1) *ℤ unit b
power-more k a b e = let g : suc k ≡ k + 1 = omega arith in unit-other a b ∙ ap (λ x. x *ℤ unit b) (e ∙ ap (power integers (unit b)) g)

-- the entry of N_i as a double sum
pub weyl-entry : (v : Module) (i row col : ℕ) → row < dimension v → col < dimension v →
    entry (pos 0) (weyl_element integers v i) row col
    ≡ sum_below integers (dimension v) (λ p. root_element_entry integers v (pos i) (pos 1) row p *ℤ
    sum_below integers (dimension v) (λ q. root_element_entry integers v (neg_ℤ (pos i)) (negsuc 0) p q *ℤ root_element_entry integers v (pos i) (pos 1) q col))
unfolding weyl_element root_element
weyl-entry v i row col a b =
    let n = dimension v in
    let X = root_element integers v (pos i) (pos 1) in
    let Y = root_element integers v (neg_ℤ (pos i)) (negsuc 0) in
    entry-table (pos 0) n n (product_entry integers X (product integers Y X)) row col a b
    ∙ sum-same integers n _ _ (λ p c. ap₂ (λ x y. x *ℤ y) (entry-table (pos 0) n n (root_element_entry integers v (pos i) (pos 1)) row p a c)
    (entry-table (pos 0) n n (product_entry integers Y X) p col c b
    ∙ sum-same integers n _ _ (λ q d. ap₂ (λ x y. x *ℤ y) (entry-table (pos 0) n n (root_element_entry integers v (neg_ℤ (pos i)) (negsuc 0)) p q c d) (entry-table (pos 0) n n (root_element_entry integers v (pos i) (pos 1)) q col d b))))
