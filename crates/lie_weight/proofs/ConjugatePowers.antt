-- The conjugates of the matrices of a root, one after the other.
use Rattle.std.proofs.Common.{◌≡◌, ℕ, zero, suc, ◌+◌, ◌-◌, ◌*◌, ◌≤◌, ℤ, pos, ◌*ℤ◌, unsigned_abs, List, [], ◌∷◌, ◌++◌, length, get_or, refl, sym, ap, subst, ◌∙◌, arith, ⊎_elim}
use Rattle.std.proofs.lemmas.Int.{unsigned_abs-mul}
use Rattle.lie_ring.specs.Integers.{integers}
use Rattle.lie_ring.specs.Powers.{power}
use Rattle.lie_ring.specs.Matrices.{Matrix, product, scaled, zero_matrix, AllFit}
use Rattle.lie_datum.specs.Numbers.{place}
use Rattle.lie_datum.proofs.Entries.{within_or_past}
use Rattle.lie_const.specs.Modules.{Module, dimension, divided_power, top}
use Rattle.lie_weight.specs.declared.factors.Factors.{Factors}
use Rattle.lie_weight.specs.Kept.{IsKeptModule}
use Rattle.lie_weight.specs.Factors.{AreFactors, conjugate_power}
use Rattle.lie_weight.specs.Completion.{IsTrimmed, KeepsAll}
use Rattle.lie_weight.proofs.DraftLemmas.{past_top, AreFirst, first_push, first_keeps}
use Rattle.lie_weight.proofs.FactorLemmas.{conjugate_zero, conjugate_square}

-- ---- signs
small_product : (a b : ℕ) → a ≤ 1 → b ≤ 1 → a * b ≤ 1
small_product zero b l m = omega arith
small_product (suc zero) b l m = omega (arith, m)
small_product (suc (suc a)) b l m = absurd (omega (arith, l))

pub sign_product : (a b c : ℤ) → unsigned_abs a ≤ 1 → b ≡ c → unsigned_abs c ≤ 1 → unsigned_abs (a *ℤ b) ≤ 1
sign_product a b c l e m = subst (λ t. t ≤ 1) (sym (unsigned_abs-mul a b)) (small_product (unsigned_abs a) (unsigned_abs b) l (subst (λ t. unsigned_abs t ≤ 1) (sym e) m))

pub next_sign : (c p q : ℤ) (k : ℕ) → p ≡ power integers c k → unsigned_abs p ≤ 1 → unsigned_abs c ≤ 1 → q ≡ p *ℤ c → (q ≡ power integers c (k + 1)) × (unsigned_abs q ≤ 1)
next_sign c p q k e l m f =
    let next : suc k ≡ k + 1 = omega arith in
    let abs : unsigned_abs q ≡ unsigned_abs p * unsigned_abs c = ap unsigned_abs f ∙ unsigned_abs-mul p c in
    (f ∙ ap (λ t. t *ℤ c) e ∙ ap (power integers c) next, subst (λ t. t ≤ 1) (sym abs) (small_product (unsigned_abs p) (unsigned_abs c) l m))

-- ---- the conjugates
module _ (w : Factors) (c : ℤ) (v : Module) (s : ℤ) (factors : AreFactors (dimension v) w) where
  -- of no matrix
  pub conjugate_past : (k : ℕ) → top v s ≤ k → conjugate_power w c v s k ≡ zero_matrix (pos 0) (dimension v) (dimension v)
  conjugate_past k l =
      ap (λ M. scaled integers (power integers c (suc k)) (product integers (product integers w.element M) w.inverse)) (past_top v s k l)
      ∙ conjugate_zero (dimension v) w.element w.inverse (power integers c (suc k)) factors.element_size factors.inverse_size

  -- one more
  pub next_conjugate : (k : ℕ) (q : ℤ) (Ms Ns : List (Matrix ℤ)) (E M : Matrix ℤ) → AreFirst (dimension v) (conjugate_power w c v s) k Ms → q ≡ power integers c (k + 1) → E ≡ divided_power v s (k + 1) →
      M ≡ scaled integers q (product integers (product integers w.element E) w.inverse) → AllFit integers M → Ns ≡ Ms ++ M ∷ [] → AreFirst (dimension v) (conjugate_power w c v s) (k + 1) Ns
  next_conjugate k q Ms Ns E M a sign e is fit push =
      let next : k + 1 ≡ suc k = omega arith in
      let whole = is
      ∙ ap (λ t. scaled integers t (product integers (product integers w.element E) w.inverse)) (sign ∙ ap (power integers c) next)
      ∙ ap (λ t. scaled integers (power integers c (suc k)) (product integers (product integers w.element t) w.inverse)) (e ∙ ap (divided_power v s) next) in
      first_push (dimension v) (conjugate_power w c v s) k Ms Ns M a whole (conjugate_square (dimension v) w.element E w.inverse M q factors.element_size factors.inverse_size is fit) push

  -- all
  pub conjugates_keep : (k : ℕ) (Ms Ns : List (Matrix ℤ)) → k ≤ 16 → top v s ≤ k → AreFirst (dimension v) (conjugate_power w c v s) k Ms → IsTrimmed (dimension v) Ms Ns → KeepsAll (dimension v) (conjugate_power w c v s) Ns
  conjugates_keep k Ms Ns few l a t = first_keeps (dimension v) (conjugate_power w c v s) k Ms Ns few a (λ j m. conjugate_past j (omega (arith, l, m))) t

  -- where there is one weight
  no_matrices : (Ms : List (List (Matrix ℤ))) (k : ℕ) → length Ms ≤ k → get_or Ms k [] ≡ []
  no_matrices [] k l = refl
  no_matrices (M ∷ Ms) zero l = absurd (omega (arith, l))
  no_matrices (M ∷ Ms) (suc k) l = no_matrices Ms k (omega (arith, l))

  kept_top : IsKeptModule v → top v s ≤ 16 * (dimension v - 1)
  kept_top h = ⊎_elim
      (λ l. (h.powers (place v.positive s) [] l).few)
      (λ l. (let e = ap (λ (Ms : List (Matrix ℤ)). length Ms) (no_matrices v.powers (place v.positive s) l) in omega (arith, e)))
      (within_or_past (place v.positive s) (length v.powers))

  pub conjugate_alone : IsKeptModule v → dimension v ≡ 1 → (k : ℕ) → conjugate_power w c v s k ≡ zero_matrix (pos 0) (dimension v) (dimension v)
  conjugate_alone h one k = let t = kept_top h in conjugate_past k (omega (arith, t, one))
