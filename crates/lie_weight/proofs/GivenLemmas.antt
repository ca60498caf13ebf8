-- The matrix that a table gives, entry by entry.
use Rattle.std.proofs.Common.{◌≡◌, ◌≢◌, ℕ, zero, suc, ◌-◌, ◌+◌, ◌<◌, ◌≤◌, ◌⊎◌, ℤ, pos, List, [], ◌∷◌, length, get_or, drop, refl, sym, ap, subst, ◌∙◌, arith, ⊎_elim, Bool, true, false, cond, eqb, ◌&&◌, Result, Ok, Err, OnOk}
use Rattle.std.proofs.lemmas.Bool.{cases_eq, eq-eqb, ne_eqb}
use Rattle.std.specs.Ordering.{int_eq}
use Rattle.std.specs.List.{All}
use Rattle.lie_ring.specs.Integers.{integers}
use Rattle.lie_ring.specs.Matrices.{Matrix, table, entry, with_entry, zero_matrix, AllFit}
use Rattle.lie_ring.specs.MatrixLemmas.{table-same, table-shaped}
use Rattle.lie_weight.specs.Kept.{IsSquare}
use Rattle.lie_weight.specs.declared.entry.Entry.{Entry}
use Rattle.lie_weight.specs.Tables.{is_at, given_entry, given_matrix}
use Rattle.lie_weight.proofs.ColumnLemmas.{int_eq-no, int_eq-yes}
use Rattle.lie_weight.proofs.StepLemmas.{entry-given}

-- a place counted from 1, and the same counted from 0
place_test : (x i : ℕ) → 1 ≤ x → eqb x (suc i) ≡ eqb i (x - 1)
place_test x i p = ⊎_elim
    (λ e. eq-eqb x (suc i) (omega (arith, e, p)) ∙ sym (eq-eqb i (x - 1) e))
    (λ n. ne_eqb x (suc i) (λ h. n (omega (arith, h))) ∙ sym (ne_eqb i (x - 1) n))
    (cases_eq i (x - 1))

both : (s t : Bool) (x y : ℤ) → cond s (cond t x y) y ≡ cond (s && t) x y
both true t x y = refl
both false t x y = refl

neither : (s t : Bool) (x y : ℤ) → cond (s && (false && t)) x y ≡ y
neither true t x y = refl
neither false t x y = refl

module _ (n : ℕ) (es : List Entry) (e : Entry) (r : ℤ) (k : ℕ) where
  -- the entry is written
  pub given_written : (M : Matrix ℤ) → M ≡ given_matrix n es r k → M.height ≡ n → M.width ≡ n → e.simple ≡ r → e.power ≡ k → 1 ≤ e.row → 1 ≤ e.col → with_entry (pos 0) M (e.row - 1) (e.col - 1) e.value ≡ given_matrix n (e ∷ es) r k
  unfolding given_matrix
  given_written M is h w s p a b =
      ap (λ t. table t M.width (λ i j. cond (eqb i (e.row - 1)) (cond (eqb j (e.col - 1)) e.value (entry (pos 0) M i j)) (entry (pos 0) M i j))) h
      ∙ ap (λ t. table n t (λ i j. cond (eqb i (e.row - 1)) (cond (eqb j (e.col - 1)) e.value (entry (pos 0) M i j)) (entry (pos 0) M i j))) w
      ∙ table-same n n (λ i j. cond (eqb i (e.row - 1)) (cond (eqb j (e.col - 1)) e.value (entry (pos 0) M i j)) (entry (pos 0) M i j)) (given_entry (e ∷ es) r k) (λ i j l m.
      (let old = ap (λ t. entry (pos 0) t i j) is ∙ entry-given n es r k i j l m in
      ap (λ t. cond (eqb i (e.row - 1)) (cond (eqb j (e.col - 1)) e.value t) t) old
      ∙ both (eqb i (e.row - 1)) (eqb j (e.col - 1)) e.value (given_entry es r k i j)
      ∙ ap (λ t. cond (t && eqb j (e.col - 1)) e.value (given_entry es r k i j)) (sym (place_test e.row i a))
      ∙ ap (λ t. cond (eqb e.row (suc i) && t) e.value (given_entry es r k i j)) (sym (place_test e.col j b))
      ∙ sym (ap (λ t. cond (t && (eqb e.power k && (eqb e.row (suc i) && eqb e.col (suc j)))) e.value (given_entry es r k i j)) (int_eq-yes e.simple r s)
      ∙ ap (λ t. cond (t && (eqb e.row (suc i) && eqb e.col (suc j))) e.value (given_entry es r k i j)) (eq-eqb e.power k p))))

  -- it is for another root or another power
  pub given_passed : (e.simple ≢ r) ⊎ (e.power ≢ k) → given_matrix n es r k ≡ given_matrix n (e ∷ es) r k
  unfolding given_matrix
  given_passed o = table-same n n (given_entry es r k) (given_entry (e ∷ es) r k) (λ i j l m. ⊎_elim
      (λ s. sym (ap (λ t. cond (t && (eqb e.power k && (eqb e.row (suc i) && eqb e.col (suc j)))) e.value (given_entry es r k i j)) (int_eq-no e.simple r s)))
      (λ p. sym (ap (λ t. cond (int_eq e.simple r && (t && (eqb e.row (suc i) && eqb e.col (suc j)))) e.value (given_entry es r k i j)) (ne_eqb e.power k p)
      ∙ neither (int_eq e.simple r) (eqb e.row (suc i) && eqb e.col (suc j)) e.value (given_entry es r k i j))) o)

no_place : (r : ℤ) (k i j : ℕ) (e : Entry) → 16 < k → e.power ≤ 16 → is_at r k i j e ≡ false
no_place r k i j e l m = ap (λ t. int_eq e.simple r && (t && (eqb e.row (suc i) && eqb e.col (suc j)))) (ne_eqb e.power k (λ x. omega (arith, x, m, l))) ∙ off (int_eq e.simple r)
  where
    off : (t : Bool) → (t && false) ≡ false
    off true = refl
    off false = refl

nothing : (r : ℤ) (k : ℕ) → 16 < k → (i j : ℕ) (es : List Entry) → All (λ e. e.power ≤ 16) es → given_entry es r k i j ≡ pos 0
nothing r k l i j [] h = refl
nothing r k l i j (e ∷ es) h = ap (λ t. cond t e.value (given_entry es r k i j)) (no_place r k i j e l (h 0 e (omega arith))) ∙ nothing r k l i j es (λ m z o. h (suc m) z (omega (arith, o)))

-- ---- the whole matrix
pub given_nothing : (n : ℕ) (r : ℤ) (k : ℕ) → zero_matrix (pos 0) n n ≡ given_matrix n [] r k
unfolding given_matrix
given_nothing n r k = refl

-- no entry has a power above 16: the matrix is 0
pub given_none : (n : ℕ) (es : List Entry) (r : ℤ) (k : ℕ) → All (λ e. e.power ≤ 16) es → 16 < k → given_matrix n es r k ≡ zero_matrix (pos 0) n n
unfolding given_matrix
given_none n es r k h l = table-same n n (given_entry es r k) (λ _ _. pos 0) (λ i j a b. nothing r k l i j es h)

-- one entry more, from the last on
abbrev pub blank : Entry
blank = record { simple = pos 0; power = 0; row = 0; col = 0; value = pos 0 }

drop_past : (es : List Entry) (k : ℕ) → length es ≤ k → drop k es ≡ []
drop_past [] zero l = refl
drop_past [] (suc k) l = refl
drop_past (e ∷ es) zero l = absurd (omega (arith, l))
drop_past (e ∷ es) (suc k) l = drop_past es k (omega (arith, l))

drop_at : (es : List Entry) (k : ℕ) (z : Entry) → k < length es → get_or es k z ∷ drop (suc k) es ≡ drop k es
drop_at [] k z l = absurd (omega (arith, l))
drop_at (e ∷ es) zero z l = refl
drop_at (e ∷ es) (suc k) z l = drop_at es k z (omega (arith, l))

pub given_start : (n : ℕ) (es : List Entry) (r : ℤ) (k : ℕ) → zero_matrix (pos 0) n n ≡ given_matrix n (drop (length es - 0) es) r k
given_start n es r k = given_nothing n r k ∙ ap (λ fs. given_matrix n fs r k) (sym (drop_past es (length es - 0) (omega arith)))

pub drop_more : (es : List Entry) (p : ℕ) (z : Entry) → p < length es → get_or es (length es - 1 - p) z ∷ drop (length es - p) es ≡ drop (length es - (p + 1)) es
drop_more es p z l =
    let at : length es - 1 - p ≡ length es - (p + 1) = omega arith in
    let next : length es - p ≡ suc (length es - (p + 1)) = omega (arith, l) in
    ap (λ k. get_or es k z ∷ drop (length es - p) es) at ∙ ap (λ k. get_or es (length es - (p + 1)) z ∷ drop k es) next ∙ drop_at es (length es - (p + 1)) z (omega (arith, l))

-- the matrix is square, and fits
pub given_square : (n : ℕ) (es : List Entry) (r : ℤ) (k : ℕ) (M : Matrix ℤ) → M ≡ given_matrix n es r k → AllFit integers M → IsSquare n M
unfolding given_matrix
given_square n es r k M e f = record {
  height = ap (λ (x : Matrix ℤ). x.height) e;
  width = ap (λ (x : Matrix ℤ). x.width) e;
  shaped = subst (λ (x : Matrix ℤ). x ≡ table x.height x.width (entry (pos 0) x)) (sym e) (table-shaped (pos 0) n n (given_entry es r k));
  fit = f;
}

-- a clause on `Ok` that follows from another
pub on_map : {A E : Type 0} (P Q : Type 0) → (P → Q) → (r : Result A E) → OnOk r P → OnOk r Q
on_map P Q f (Ok x) p = f p
on_map P Q f (Err e) p = tt
