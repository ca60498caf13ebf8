-- Where a side is not large, each of its factors can be multiplied with the column of those behind it.
-- Own: the bounds.
use Rattle.std.proofs.Common.{◌≡◌, ℕ, suc, ◌*◌, ◌-◌, ◌<◌, ◌≤◌, ◌^◌, ℤ, pos, ◌+ℤ◌, ◌*ℤ◌, nat_abs, List, [], ◌∷◌, ◌++◌, get_or, cond, eqb, refl, sym, ap, ◌∙◌, subst, arith}
use Rattle.std.specs.Prelude.{◌≤ℤ◌, ◌<ℤ◌}
use Rattle.std.proofs.lemmas.Int.{ints}
use Rattle.std.proofs.lemmas.Bool.{eq-eqb, ne_eqb}
use Rattle.std.proofs.Math.Nat.{mul-le-mul_left, mul-le-mul_right}
use Rattle.std.proofs.lemmas.List.{append-nil}
use Rattle.lie_ring.specs.Rings.{sum_below}
use Rattle.lie_ring.specs.Integers.{integers}
use Rattle.lie_ring.specs.IntegerLaws.{integers_commutative}
use Rattle.lie_ring.specs.Powers.{power}
use Rattle.lie_ring.specs.RingLemmas.{add_mul, one_mul, zero_mul}
use Rattle.lie_ring.specs.SumLemmas.{sum-same, sum-add, sum-only}
use Rattle.lie_ring.specs.Matrices.{Matrix, entry, identity, product_entry, IsShaped}
use Rattle.lie_ring.specs.MatrixLemmas.{entry-table, table-shaped}
use Rattle.lie_datum.specs.Vectors.{pairing}
use Rattle.lie_datum.specs.RootDatum.{simple_coroot}
use Rattle.lie_datum.specs.RootList.{RootDatum}
use Rattle.lie_const.specs.Modules.{Module, dimension, top, divided_power}
use Rattle.lie_mat.specs.Wide.{IsHugeMatrix}
use Rattle.lie_poly.specs.Polynomials.{Polynomial, laurent, size, degree, constant, monomial}
use Rattle.lie_poly.specs.LaurentLaws.{laurent_ring}
use Rattle.lie_identities.specs.AuditRelations.{Factor, RootElement, CorootElement, coroot_power, factor_matrix, size_entry, size_element, side_size}
use Rattle.lie_identities.specs.Audit.{laurent_variables}
use Rattle.lie_identities.specs.declared.steps.Step.{Step}
use Rattle.lie_identities.specs.StepLists.{steps_of, IsStepOf, HasSmallEntries}
use Rattle.lie_identities.specs.Columns.{side_column, moved_size, part_size, IsColumn, side_degree, IsNarrowSide, HasLightPairings}
use Rattle.lie_identities.specs.Moves.{IsNarrowMove, IsReadyForRoot, IsReadyForCoroot, IsReadyFor}
use Rattle.lie_identities.proofs.FactorLemmas.{polynomials, factor-height, side-height}
use Rattle.lie_identities.proofs.SideLemmas.{side-wide}
use Rattle.lie_identities.proofs.SizeLemmas.{sum_monotone, times_monotone}
use Rattle.lie_identities.proofs.EntrySizes.{side-size}
use Rattle.lie_identities.proofs.GrowingSizes.{sides-grow, last_small, side_tall, side_broad, size_terms}
use Rattle.lie_identities.proofs.NarrowLemmas.{are_steps, at_place, step-narrow}
use Rattle.lie_identities.proofs.DegreeLemmas.{side-degree, power-degree, degree-last}
use Rattle.lie_identities.proofs.DifferenceLemmas.{column-entry, all_over}

-- ---- the shape of a column
module _ (d : RootDatum) (v : Module) (b : ℕ) where
  pub column-tall : (xs : List (Factor Polynomial)) → (side_column laurent_variables d v xs b).height ≡ dimension v
  column-tall [] = refl
  column-tall (x ∷ xs) = factor-height laurent_variables d v laurent_ring polynomials x

  pub column-broad : (xs : List (Factor Polynomial)) → (side_column laurent_variables d v xs b).width ≡ 1
  column-broad [] = refl
  column-broad (x ∷ xs) = column-broad xs

  column-shaped : (xs : List (Factor Polynomial)) → IsShaped laurent.zero (side_column laurent_variables d v xs b)
  column-shaped [] = table-shaped laurent.zero (dimension v) 1 (λ a _. cond (eqb a b) laurent.one laurent.zero)
  column-shaped (x ∷ xs) = table-shaped laurent.zero (factor_matrix laurent_variables d v x).height (side_column laurent_variables d v xs b).width (product_entry laurent (factor_matrix laurent_variables d v x) (side_column laurent_variables d v xs b))

-- ---- sizes
-- c t^e, for c = 1, has the size 1
pub size-t : (e : ℤ) → size (monomial (pos 1) e (pos 0)) ≤ 1
size-t e = omega arith

-- so has the power of a coroot
pub coroot-small : (d : RootDatum) (v : Module) (i a : ℕ) → size (coroot_power laurent_variables d v i a) ≤ 1
coroot-small d v i a = size-t (pairing (get_or v.weights a []) (simple_coroot d.base i))

-- an entry of the identity is at most that of a product of sizes
pub diagonal-small : (v : Module) (xs : List (Factor Polynomial)) (i : ℕ) → i < dimension v → pos 1 ≤ℤ entry (pos 0) (side_size laurent v xs) i i
diagonal-small v xs i l =
    let n = dimension v in
    let at = entry-table (pos 0) n n (λ i j. cond (eqb i j) (pos 1) (pos 0)) i i l l ∙ ap (λ b. cond b (pos 1) (pos 0)) (eq-eqb i i refl) in
    subst (λ z. z ≤ℤ entry (pos 0) (side_size laurent v xs) i i) at
    (subst (λ ys. entry (pos 0) (identity integers n) i i ≤ℤ entry (pos 0) (side_size laurent v ys) i i) (append-nil xs) (sides-grow v laurent xs [] i i l l))

-- the last factors of a side that is not large are not large
pub last_narrow : (v : Module) (ys xs : List (Factor Polynomial)) → ¬ IsHugeMatrix (side_size laurent v (ys ++ xs)) → ¬ IsHugeMatrix (side_size laurent v xs)
last_narrow v ys xs small m =
    let l = last_small v laurent ys xs small m.row m.col (let h = side_tall v laurent xs in let w = m.row_within in omega (arith, h, w)) (let h = side_broad v laurent xs in let w = m.col_within in omega (arith, h, w)) in
    let g = m.huge in
    absurd (omega (arith, l, g))

-- c t^e has the degree |e|
light-degree : (d : RootDatum) (v : Module) → HasLightPairings d v → (i a : ℕ) → a < dimension v → degree (coroot_power laurent_variables d v i a) ≤ 800000000
light-degree d v light i a l = let h = light i a l in degree-t (pairing (get_or v.weights a []) (simple_coroot d.base i)) h
  where
    degree-t : (e : ℤ) → nat_abs e ≤ 800000000 → degree (monomial (pos 1) e (pos 0)) ≤ 800000000
    degree-t e h = grind arith

-- one factor of a product under a bound
pub times_right : (m a b : ℤ) → a ≤ℤ b → pos 0 ≤ℤ m → (m *ℤ a) ≤ℤ (m *ℤ b)
times_right m a b h p =
    subst (λ z. z ≤ℤ (m *ℤ b)) (integers_commutative.mul_comm a m refl refl)
    (subst (λ z. (a *ℤ m) ≤ℤ z) (integers_commutative.mul_comm b m refl refl) (times_monotone a b m h p))

module _ (d : RootDatum) (v : Module) (light : HasLightPairings d v) (entries : HasSmallEntries v) (xs : List (Factor Polynomial)) (b : ℕ) (col : b < dimension v) where
  abbrev V : Matrix Polynomial
  V = side_column laurent_variables d v xs b

  abbrev S : Matrix ℤ
  S = side_size laurent v xs

  V-size : (a : ℕ) → a < dimension v → pos (size (entry laurent.zero V a 0)) ≤ℤ entry (pos 0) S a b
  V-size a l =
      subst (λ x. pos (size x) ≤ℤ entry (pos 0) S a b) (sym (column-entry d v xs (all_over xs) a b l col))
      (side-size laurent_variables d v laurent_ring polynomials size-t xs (all_over xs) a b
      (let h = side-height laurent_variables d v laurent_ring polynomials xs in omega (arith, h, l)) (let h = side-wide laurent_variables d v xs in omega (arith, h, col)))

  V-degree : (a : ℕ) → a < dimension v → degree (entry laurent.zero V a 0) ≤ side_degree v xs
  V-degree a l =
      subst (λ x. degree x ≤ side_degree v xs) (sym (column-entry d v xs (all_over xs) a b l col))
      (side-degree d v (light-degree d v light) xs a b
      (let h = side-height laurent_variables d v laurent_ring polynomials xs in omega (arith, h, l)) (let h = side-wide laurent_variables d v xs in omega (arith, h, col)))

  -- the column may be handed to calls
  pub ready-column : ¬ IsHugeMatrix S → IsColumn (dimension v) V
  ready-column small = record {
    height = column-tall d v b xs;
    width = column-broad d v b xs;
    shaped = column-shaped d v b xs;
    fit = λ i j p q. (refl, fit-at i j (let h = column-tall d v b xs in omega (arith, h, p)) (let w = column-broad d v b xs in omega (arith, w, q)));
  }
    where
      fit-at : (i j : ℕ) → i < dimension v → j ≡ 0 → size (entry laurent.zero V i j) < 2 ^ 126
      fit-at i j p e =
          let own = V-size i p in
          let l = last_small v laurent [] xs small i b p col in
          subst (λ k. size (entry laurent.zero V i k) < 2 ^ 126) (sym e) (let h : size (entry laurent.zero V i 0) < 2 ^ 126 = omega (arith, ints, own, l) in h)

  module _ (r : ℤ) (f : Polynomial) (small : ¬ IsHugeMatrix (side_size laurent v (RootElement r f ∷ xs))) (shallow : side_degree v (RootElement r f ∷ xs) < 2 ^ 30) where
    E : ℕ → ℕ → ℤ
    E a c = entry (pos 0) (side_size laurent v (RootElement r f ∷ xs)) a c

    bound : (a c : ℕ) → a < dimension v → c < dimension v → nat_abs (entry (pos 0) (side_size laurent v (RootElement r f ∷ xs)) a c) < 2 ^ 126
    bound a c i j = last_small v laurent [] (RootElement r f ∷ xs) small a c i j

    -- the products of a step
    narrow-move : (k : ℕ) (s : Step) → k < dimension v → IsStepOf v r k s → IsNarrowMove (power laurent f s.power) s.value (entry laurent.zero V k 0)
    narrow-move k s l is =
        let p = power laurent f s.power in
        let x = entry laurent.zero V k 0 in
        let m = nat_abs s.value in
        let c = constant s.value in
        let alone = step-narrow laurent laurent_ring v r f refl xs small k k 1 s l l is (diagonal-small v xs k l) in
        let alone_bound = bound s.row k is.row l in
        let both = step-narrow laurent laurent_ring v r f refl xs small k b (size x) s l col is (V-size k l) in
        let both_bound = bound s.row b is.row col in
        let o = laurent_ring.sized.size_int s.value in
        let first = mul-le-mul_left (size p) o in
        let made = laurent_ring.sized.size_mul p c refl refl in
        let second = mul-le-mul_right (size x) (let h : size (laurent.mul p c) ≤ size p * m = omega (arith, first, made) in h) in
        let d_int = laurent_ring.sized.degree_int s.value in
        let d_power = power-degree laurent laurent_ring f s.power (top v r) refl is.last in
        let d_mul = laurent_ring.sized.degree_mul p c refl refl in
        let d_column = V-degree k l in
        record {
          value = value-small k s l is;
          size_first = omega (arith, ints, alone, alone_bound, first);
          size_second = omega (arith, ints, both, both_bound, second);
          degree_first = omega (arith, d_int, d_power, shallow);
          degree_second = omega (arith, d_int, d_power, d_mul, d_column, shallow);
        }
      where
        value-small : (k : ℕ) (s : Step) → k < dimension v → IsStepOf v r k s → nat_abs s.value < 2 ^ 126
        value-small k s l is =
            let first = is.first in
            let last = is.last in
            let e : suc (s.power - 1) ≡ s.power = omega (arith, first) in
            subst (λ n. nat_abs n < 2 ^ 126) (sym is.value)
            (subst (λ j. nat_abs (entry (pos 0) (divided_power v r j) s.row k) < 2 ^ 126) e (entries r k l (s.power - 1) s.row (omega (arith, first, last)) is.row))

    -- an entry of the product of the sizes
    split : (a : ℕ) → a < dimension v
        → entry (pos 0) (side_size laurent v (RootElement r f ∷ xs)) a b ≡ entry (pos 0) S a b +ℤ sum_below integers (dimension v) (λ k. moved_size v r (size f) a k *ℤ entry (pos 0) S k b)
    split a l =
        let n = dimension v in
        let w = side_broad v laurent xs in
        let one = λ (k : ℕ). cond (eqb a k) (pos 1) (pos 0) in
        let z = integers_commutative in
        entry-table (pos 0) n S.width (product_entry integers (size_element v r (size f)) S) a b l (omega (arith, w, col))
        ∙ sum-same integers n _ (λ k. (one k *ℤ entry (pos 0) S k b) +ℤ (moved_size v r (size f) a k *ℤ entry (pos 0) S k b)) (λ k c.
        ap (λ y. y *ℤ entry (pos 0) S k b) (entry-table (pos 0) n n (size_entry v r (size f)) a k l c)
        ∙ add_mul integers z (one k) (moved_size v r (size f) a k) (entry (pos 0) S k b) refl refl refl)
        ∙ sum-add integers z n (λ k. one k *ℤ entry (pos 0) S k b) (λ k. moved_size v r (size f) a k *ℤ entry (pos 0) S k b) (λ k _. refl) (λ k _. refl)
        ∙ ap (λ y. y +ℤ sum_below integers n (λ k. moved_size v r (size f) a k *ℤ entry (pos 0) S k b))
        (sum-only integers z n a (λ k. one k *ℤ entry (pos 0) S k b) l (λ _ _. refl)
        (λ k c apart. ap (λ t. cond t (pos 1) (pos 0) *ℤ entry (pos 0) S k b) (ne_eqb a k (λ h. apart (sym h))) ∙ zero_mul integers z (entry (pos 0) S k b) refl)
        ∙ ap (λ t. cond t (pos 1) (pos 0) *ℤ entry (pos 0) S a b) (eq-eqb a a refl)
        ∙ one_mul integers z (entry (pos 0) S a b) refl)

    room : (a : ℕ) → a < dimension v → (pos (size (entry laurent.zero V a 0)) +ℤ sum_below integers (dimension v) (part_size laurent v r f V a)) <ℤ pos (2 ^ 126)
    room a l =
        let own = V-size a l in
        let others = sum_monotone (dimension v) (part_size laurent v r f V a) (λ k. moved_size v r (size f) a k *ℤ entry (pos 0) S k b)
        (λ k c. times_right (moved_size v r (size f) a k) (pos (size (entry laurent.zero V k 0))) (entry (pos 0) S k b) (V-size k c) (size_terms v r (size f) a k)) in
        let whole = split a l in
        let most = bound a b l col in
        omega (arith, ints, own, others, whole, most)

    pub ready-root : IsReadyForRoot v r f V
    ready-root = record {
      column = ready-column (last_narrow v (RootElement r f ∷ []) xs small);
      steps = λ k l j z i.
          let is = at_place (IsStepOf v r k) (steps_of v r k) j z (are_steps v r k) i in
          record { first = is.first; last = is.last; narrow = narrow-move k (get_or (steps_of v r k) j z) l is };
      room = room;
    }

  pub ready-coroot : (i : ℕ) → ¬ IsHugeMatrix (side_size laurent v (CorootElement i ∷ xs)) → side_degree v (CorootElement i ∷ xs) < 2 ^ 30 → IsReadyForCoroot d v i V
  ready-coroot i small shallow = record {
    column = ready-column (last_narrow v (CorootElement i ∷ []) xs small);
    shallow = λ a l. let p = light-degree d v light i a l in let q = V-degree a l in omega (arith, p, q, shallow);
  }

-- each factor of a narrow side is ready for the column of those behind it
pub ready-side : (d : RootDatum) (v : Module) → HasLightPairings d v → HasSmallEntries v → (ys : List (Factor Polynomial)) (x : Factor Polynomial) (xs : List (Factor Polynomial)) (b : ℕ) → b < dimension v
    → IsNarrowSide d v (ys ++ x ∷ xs) → IsReadyFor d v x (side_column laurent_variables d v xs b)
ready-side d v light entries ys (RootElement r f) xs b col side =
    let h = side.shallow in
    let g = degree-last v ys (RootElement r f ∷ xs) in
    ready-root d v light entries xs b col r f (last_narrow v ys (RootElement r f ∷ xs) side.small) (omega (arith, h, g))
ready-side d v light entries ys (CorootElement i) xs b col side =
    let h = side.shallow in
    let g = degree-last v ys (CorootElement i ∷ xs) in
    ready-coroot d v light entries xs b col i (last_narrow v ys (CorootElement i ∷ xs) side.small) (omega (arith, h, g))
