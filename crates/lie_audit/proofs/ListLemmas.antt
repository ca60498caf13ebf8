-- Lists of values.
use Rattle.std.proofs.Common.{◌≡◌, ℕ, suc, ◌+◌, ◌<◌, ◌≤◌, ℤ, pos, negsuc, ◌+ℤ◌, ◌*ℤ◌, unsigned_abs, List, [], ◌∷◌, ◌++◌, length, get_or, sym, ap, subst, ◌∙◌, arith, ⊎_elim}
use Rattle.std.proofs.lemmas.List.{get_or_append_left}
use Rattle.lie_ring.specs.Rings.{sum_below}
use Rattle.lie_ring.specs.Integers.{integers}
use Rattle.lie_ring.specs.SumLemmas.{sum-same}
use Rattle.lie_datum.proofs.Entries.{within_or_past}
use Rattle.lie_const.specs.Modules.{Module, dimension, root_element_entry}
use Rattle.lie_weight.proofs.MatrixLists.{get_or-last, length-push}
use Rattle.lie_audit.specs.SignParts.{Lists, IsWithinList, row_value}

-- nothing is listed
pub lists-none : (f : ℕ → ℤ) (b : ℕ) (xs : List ℤ) → xs ≡ [] → Lists 0 f b xs
lists-none f b xs e = record { count = ap length e; values = λ i l. absurd (omega (arith, l)); small = λ i l. absurd (omega (arith, l)) }

-- one value more
pub lists-push : (n : ℕ) (f : ℕ → ℤ) (b : ℕ) (xs ys : List ℤ) (x : ℤ) → Lists n f b xs → x ≡ f n → unsigned_abs x ≤ b → ys ≡ xs ++ x ∷ [] → Lists (n + 1) f b ys
lists-push n f b xs ys x p e l q =
    let count = p.count in
    subst (Lists (n + 1) f b) (sym q) (record {
      count = let k = length-push xs x in omega (arith, k, count);
      values = λ i m. ⊎_elim
          (λ k. get_or_append_left xs (x ∷ []) (pos 0) i (omega (arith, k, count)) ∙ p.values i k)
          (λ k. (let g : i ≡ n = omega (arith, m, k) in ap (λ j. get_or (xs ++ x ∷ []) j (pos 0)) g ∙ get_or-last xs x (pos 0) n (sym count) ∙ e ∙ ap f (sym g)))
          (within_or_past i n);
      small = λ i m. ⊎_elim (λ k. p.small i k) (λ k. (let g : n ≡ i = omega (arith, m, k) in subst (λ j. unsigned_abs (f j) ≤ b) g (subst (λ z. unsigned_abs z ≤ b) e l))) (within_or_past i n);
    })

-- the values are within the bound
pub lists-within : (n : ℕ) (f : ℕ → ℤ) (b : ℕ) (xs : List ℤ) → Lists n f b xs → IsWithinList b xs
lists-within n f b xs p i l = let c = p.count in let m : i < n = omega (arith, l, c) in subst (λ x. unsigned_abs x ≤ b) (sym (p.values i m)) (p.small i m)

-- a row times a list of values
pub row_value-lists : (v : Module) (r t : ℤ) (row : ℕ) (f : ℕ → ℤ) (b : ℕ) (xs : List ℤ) → Lists (dimension v) f b xs → row_value v r t row xs ≡ sum_below integers (dimension v) (λ j. root_element_entry integers v r t row j *ℤ f j)
row_value-lists v r t row f b xs p = sum-same integers (dimension v) _ _ (λ j l. ap (λ x. root_element_entry integers v r t row j *ℤ x) (p.values j l))

-- one product more in a sum
pub sum-more : (f : ℕ → ℤ) (k : ℕ) (s x : ℤ) → s ≡ sum_below integers k f → x ≡ s +ℤ f k → x ≡ sum_below integers (k + 1) f
sum-more f k s x a b = let e : suc k ≡ k + 1 = omega arith in b ∙ ap (λ y. y +ℤ f k) a ∙ ap (λ m. sum_below integers m f) e

-- two root elements applied to a column of the first
pub double-row : (v : Module) (up down : ℤ) (row col : ℕ) (xs ys : List ℤ) →
    Lists (dimension v) (λ i. root_element_entry integers v up (pos 1) i col) 601 xs → Lists (dimension v) (λ i. row_value v down (negsuc 0) i xs) 100000000 ys →
    row_value v up (pos 1) row ys ≡ sum_below integers (dimension v) (λ p. root_element_entry integers v up (pos 1) row p *ℤ
    sum_below integers (dimension v) (λ q. root_element_entry integers v down (negsuc 0) p q *ℤ root_element_entry integers v up (pos 1) q col))
double-row v up down row col xs ys a b =
    row_value-lists v up (pos 1) row (λ i. row_value v down (negsuc 0) i xs) 100000000 ys b
    ∙ sum-same integers (dimension v) _ _ (λ p _. ap (λ x. root_element_entry integers v up (pos 1) row p *ℤ x) (row_value-lists v down (negsuc 0) p (λ i. root_element_entry integers v up (pos 1) i col) 601 xs a))
