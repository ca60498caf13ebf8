-- The work on the matrices of a root, one after the other.
use Rattle.std.proofs.Common.{◌≡◌, ℕ, zero, suc, ◌+◌, ◌<◌, ◌≤◌, ℤ, sym, ap, subst, ◌∙◌, arith, ⊎_elim}
use Rattle.lie_datum.proofs.Entries.{within_or_past}
use Rattle.lie_mat.specs.Wide.{IsHugeMatrix}
use Rattle.lie_const.specs.Modules.{Module, dimension, divided_power, top}
use Rattle.lie_weight.specs.declared.factors.Factors.{Factors}
use Rattle.lie_weight.specs.Factors.{AreFactors, work_on, HasSmallWork, IsFirstHugePower}
use Rattle.lie_weight.proofs.DraftLemmas.{past_top}
use Rattle.lie_weight.proofs.FactorLemmas.{zero_not_huge, work_zero}

-- what holds below n and at n holds below n + 1
pub below_more : (P : ℕ → Type 0) (n : ℕ) → ((j : ℕ) → j < n → P j) → P n → (j : ℕ) → j < n + 1 → P j
below_more P n h p j l = ⊎_elim (λ m. h j m) (λ m. subst P (let e : n ≡ j = omega (arith, l, m) in e) p) (within_or_past j n)

module _ (w : Factors) (v : Module) (s : ℤ) where
  -- the work on the first n matrices is not huge
  abbrev pub IsSmallBelow : ℕ → Type 0
  IsSmallBelow n = (j : ℕ) → j < n → ¬ IsHugeMatrix (work_on w.absolute (divided_power v s (suc j)))

  pub small_all : AreFactors (dimension v) w → (n : ℕ) → top v s ≤ n → IsSmallBelow n → HasSmallWork w v s
  small_all f n l h k = ⊎_elim (λ m. h k m) (λ m. subst (λ t. ¬ IsHugeMatrix t)
      (sym (ap (work_on w.absolute) (past_top v s k (omega (arith, l, m))) ∙ work_zero (dimension v) w.absolute f.absolute_size)) (zero_not_huge (dimension v))) (within_or_past k n)

  pub first_power : (n : ℕ) → IsSmallBelow n → IsHugeMatrix (work_on w.absolute (divided_power v s (n + 1))) → IsFirstHugePower w v s (n + 1)
  first_power n h x = record { first = omega arith; huge = x; before = λ j a l. at j a l }
    where
      at : (j : ℕ) → 1 ≤ j → j < n + 1 → ¬ IsHugeMatrix (work_on w.absolute (divided_power v s j))
      at zero a l = absurd (omega (arith, a))
      at (suc j) a l = h j (omega (arith, l))
