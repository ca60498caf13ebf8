-- Each pair of roots whose sum is a root comes, by the two sign rules, from one special pair (r, s) of a sum k: from (r, s), (s, -k) or (-k, r).
use Rattle.std.proofs.Common.{◌≢◌, ℤ, pos, neg_ℤ, ◌<ℤ◌, sym, ap, subst, ◌∙◌, arith, ◌⊎◌, inl, inr, ⊎_elim}
use Rattle.std.proofs.lemmas.Int.{ints}
use Rattle.lie_datum.specs.RootList.{RootDatum, IsLoaded, IsNumber}
use Rattle.lie_const.specs.StructureConstants.{IsSum, IsSpecial}
use Rattle.lie_const.proofs.SumLemmas.{neg_neg, neg_number, sum_swap, sum_turn, sum_neg, not_double, not_opposite, sign_of, compare_numbers}

-- what the two sign rules keep
pub record IsClosed (d : RootDatum) (P : ℤ → ℤ → Type 0) : Type 0 where
  pub swapped : (r s : ℤ) → IsNumber d r → IsNumber d s → s ≢ neg_ℤ r → P r s → P s r
  pub opposite : (r s : ℤ) → IsNumber d r → IsNumber d s → s ≢ neg_ℤ r → P r s → P (neg_ℤ r) (neg_ℤ s)

pub record HoldsOn (P : ℤ → ℤ → Type 0) (r s k : ℤ) : Type 0 where
  pub own : P r s
  pub right : P s (neg_ℤ k)
  pub left : P (neg_ℤ k) r

module _ (d : RootDatum) (loaded : IsLoaded d) (P : ℤ → ℤ → Type 0) (closed : IsClosed d P) where
  both : (r s : ℤ) → IsNumber d r → IsNumber d s → s ≢ neg_ℤ r → P (neg_ℤ r) (neg_ℤ s) → P r s
  both r s m n o p =
      subst (λ x. P x s) (neg_neg r) (subst (λ x. P (neg_ℤ (neg_ℤ r)) x) (neg_neg s)
      (closed.opposite (neg_ℤ r) (neg_ℤ s) (neg_number d loaded r m) (neg_number d loaded s n) (λ e. o (sym (neg_neg s) ∙ ap neg_ℤ e ∙ neg_neg (neg_ℤ r))) p))

  module _ (known : ℤ → Type 0) (special : (r s k : ℤ) → IsSpecial d r s k → known k → HoldsOn P r s k) where
    -- the special pair of two positive roots with the sum k
    upward : (p q k : ℤ) → IsSum d p q k → pos 0 <ℤ p → pos 0 <ℤ q → known k → HoldsOn P p q k ⊎ HoldsOn P q p k
    upward p q k h a b o = ⊎_elim (λ l. inl (special p q k (record { positive = a; before = l; sum = h }) o))
        (λ f. ⊎_elim (λ l. inr (special q p k (record { positive = b; before = l; sum = sum_swap d loaded p q k h }) o))
        (λ e. absurd (not_double d loaded q k (subst (λ x. IsSum d x q k) e h))) f) (compare_numbers p q)

    positive_pair : (p q k : ℤ) → IsSum d p q k → pos 0 <ℤ p → pos 0 <ℤ q → known k → P p q
    positive_pair p q k h a b o = ⊎_elim (λ f. f.own) (λ f. closed.swapped q p h.right h.left (not_opposite d loaded q p k (sum_swap d loaded p q k h)) f.own) (upward p q k h a b o)

    -- p = k + (-q), both positive: N_pq comes from the special pair of k and -q, or of -q and k
    falling : (p q k : ℤ) → IsSum d p q k → pos 0 <ℤ k → q <ℤ pos 0 → known p → P p q
    falling p q k h a b o =
        let t = sum_turn d loaded p q k h in
        let n = not_opposite d loaded p q k h in
        ⊎_elim
        -- k before -q: P (-q) (-p)
        (λ f. both p q h.left h.right n (closed.swapped (neg_ℤ q) (neg_ℤ p) (neg_number d loaded q h.right) (neg_number d loaded p h.left) (λ e. n (sym (e ∙ neg_neg q))) f.right))
        (λ f. both p q h.left h.right n f.left)
        (upward k (neg_ℤ q) p t a (omega (arith, ints, b)) o)

    -- -q = p + (-k), both positive
    rising : (p q k : ℤ) → IsSum d p q k → pos 0 <ℤ p → k <ℤ pos 0 → known (neg_ℤ q) → P p q
    rising p q k h a b o =
        let t = sum_swap d loaded (neg_ℤ k) p (neg_ℤ q) (subst (λ x. IsSum d (neg_ℤ k) x (neg_ℤ q)) (neg_neg p) (sum_neg d loaded k (neg_ℤ p) q (sum_turn d loaded q p k (sum_swap d loaded p q k h)))) in
        let n = not_opposite d loaded q p k (sum_swap d loaded p q k h) in
        ⊎_elim
        (λ f. closed.swapped q p h.right h.left n (subst (λ x. P x p) (neg_neg q) f.left))
        (λ f. subst (P p) (neg_neg q) f.right)
        (upward p (neg_ℤ k) (neg_ℤ q) t a (omega (arith, ints, b)) o)

    -- a positive and a negative root
    pub mixed_pair : (p q k : ℤ) → IsSum d p q k → pos 0 <ℤ p → q <ℤ pos 0 → known p → known (neg_ℤ q) → P p q
    mixed_pair p q k h a b o u = ⊎_elim (λ c. falling p q k h c b o) (λ c. rising p q k h a c u) (sign_of d k h.number)

  pub every_pair : ((r s k : ℤ) → IsSpecial d r s k → HoldsOn P r s k) → (p q k : ℤ) → IsSum d p q k → P p q
  every_pair special p q k h =
      let all : (r s k : ℤ) → IsSpecial d r s k → Unit {0} → HoldsOn P r s k = λ r s k e _. special r s k e in
      let n = not_opposite d loaded p q k h in
      ⊎_elim
      (λ a. ⊎_elim (λ b. positive_pair (λ _. Unit {0}) all p q k h a b tt) (λ b. mixed_pair (λ _. Unit {0}) all p q k h a b tt tt) (sign_of d q h.right))
      (λ a. ⊎_elim
      (λ b. closed.swapped q p h.right h.left (not_opposite d loaded q p k (sum_swap d loaded p q k h)) (mixed_pair (λ _. Unit {0}) all q p k (sum_swap d loaded p q k h) b a tt tt))
      (λ b. both p q h.left h.right n (positive_pair (λ _. Unit {0}) all (neg_ℤ p) (neg_ℤ q) (neg_ℤ k) (sum_neg d loaded p q k h) (omega (arith, ints, a)) (omega (arith, ints, b)) tt)) (sign_of d q h.right))
      (sign_of d p h.left)
