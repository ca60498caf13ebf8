-- The first place at which a tensor product is huge, its weights, and the whole product.
use Rattle.std.proofs.Common.{◌≡◌, ℕ, zero, suc, ◌+◌, ◌-◌, ◌*◌, ◌<◌, ◌≤◌, ℤ, pos, ◌+ℤ◌, List, [], ◌∷◌, ◌++◌, map, length, get_or, take, sym, ap, ap₂, subst, ◌∙◌, arith, ◌⊎◌, inl, inr, ⊎_elim, length-append, append_assoc, append-nil, unsigned_abs, Option, None, Some, lit<}
use mir.Val.{to_z, of_z}
use mir.Syntax.{w128}
use Rattle.std.specs.Prelude.{IfSome, MatchOption}
use Rattle.std.proofs.lemmas.List.{get_or_append_left, get_or-append-add, map_more, take_more}
use Rattle.std.proofs.Math.ListN.{length-map}
use Rattle.std.proofs.lemmas.List.Elements.{All-from_get_or}
use Rattle.std.specs.List.{All}
use Rattle.lie_ring.specs.Matrices.{Matrix, table, entry, zero_matrix}
use Rattle.lie_mat.specs.Wide.{IsHugeMatrix}
use Rattle.lie_datum.specs.Vectors.{Vector, plus}
use Rattle.lie_datum.specs.Numbers.{place, number_at}
use Rattle.lie_datum.specs.RootDatum.{IsWithin}
use Rattle.lie_datum.specs.RootList.{RootDatum, IsNumber}
use Rattle.lie_datum.proofs.Entries.{within_or_past}
use Rattle.lie_datum.proofs.VectorLemmas.{plain, sum_is}
use Rattle.lie_datum.proofs.NumberLemmas.{place_within}
use Rattle.lie_datum.proofs.SignedRoots.{same_place}
use Rattle.lie_const.specs.Modules.{Module, IsModule, dimension, divided_powers, divided_power}
use Rattle.lie_weight.specs.Kept.{ArePowers, IsKeptModule}
use Rattle.lie_weight.specs.Conjugation.{Precedes}
use Rattle.lie_weight.specs.OrbitFaults.{IsHeavyWeight, IsHeavyAt}
use Rattle.lie_weight.specs.CarrierParts.{IsFirstOf}
use Rattle.lie_weight.specs.Completion.{matrix_at}
use Rattle.lie_weight.specs.Tensors.{added_weights, tensor_weights, tensor_power, tensor_size, IsTensor, IsHugeTensor, IsFirstHugeTensor}
use Rattle.lie_weight.specs.TensorParts.{IsFirstHugeProduct, AreTensorPowers, IsFoundBefore, IsFoundWith}
use Rattle.lie_weight.proofs.Assembled.{number_place}
use Rattle.lie_weight.proofs.AlongLemmas.{trichotomy}
use Rattle.lie_weight.proofs.CarrierLemmas.{precedes-trans, light_coordinates}

-- ---- weights
-- what the code puts for the sum of two coordinates
pub coordinate_is : (t a b : ℤ) → t ≡ a → unsigned_abs a ≤ 1000000 → unsigned_abs b ≤ 1000000 → to_z w128 (of_z w128 (to_z w128 (of_z w128 t) +ℤ to_z w128 (of_z w128 b))) ≡ a +ℤ b
coordinate_is t a b e p q =
    ap (λ u. to_z w128 (of_z w128 (to_z w128 (of_z w128 u) +ℤ to_z w128 (of_z w128 b)))) e ∙ ap (λ u. to_z w128 (of_z w128 (u +ℤ to_z w128 (of_z w128 b)))) (plain a 1000000 p (lit< tt))
    ∙ sum_is a b 1000000 1000000 p q (lit< tt)

-- one weight more of the first list
pub added-last : (xs : List Vector) (x : Vector) (ys : List Vector) → added_weights (xs ++ x ∷ []) ys ≡ added_weights xs ys ++ map (plus x) ys
added-last [] x ys = append-nil (map (plus x) ys)
added-last (y ∷ xs) x ys = ap (λ t. map (plus y) ys ++ t) (added-last xs x ys) ∙ sym (append_assoc (map (plus y) ys) (added_weights xs ys) (map (plus x) ys))

-- one weight more of the second list
pub weights_push : (x y : Vector) (ys : List Vector) (b : ℕ) (us vs ws : List Vector) → b < length ys → y ≡ get_or ys b [] → vs ≡ us ++ map (plus x) (take b ys) → ws ≡ vs ++ plus x y ∷ [] → ws ≡ us ++ map (plus x) (take (b + 1) ys)
weights_push x y ys b us vs ws l here inv push =
    push ∙ ap₂ (λ t z. t ++ plus x z ∷ []) inv here ∙ append_assoc us (map (plus x) (take b ys)) (plus x (get_or ys b []) ∷ []) ∙ ap (λ t. us ++ t) (sym (map_more (plus x) ys b [] l))

-- one weight more of the first
pub rows_push : (x : Vector) (xs ys : List Vector) (a : ℕ) (vs ws : List Vector) → a < length xs → x ≡ get_or xs a [] → vs ≡ added_weights (take a xs) ys → ws ≡ vs ++ map (plus x) ys → ws ≡ added_weights (take (a + 1) xs) ys
rows_push x xs ys a vs ws l here inv push =
    push ∙ ap₂ (λ t z. t ++ map (plus z) ys) inv here ∙ sym (added-last (take a xs) (get_or xs a []) ys) ∙ ap (λ t. added_weights t ys) (sym (take_more xs a [] l))

-- the product of the dimensions
pub length-added : (xs ys : List Vector) → length (added_weights xs ys) ≡ length xs * length ys
length-added [] ys = none (length ys)
  where
    none : (n : ℕ) → 0 ≡ 0 * n
    none n = omega arith
length-added (x ∷ xs) ys =
    length-append (map (plus x) ys) (added_weights xs ys) ∙ ap₂ (λ a b. a + b) (length-map ys (plus x)) (length-added xs ys) ∙ more (length xs) (length ys)
  where
    more : (m n : ℕ) → n + m * n ≡ suc m * n
    more m n = omega arith

-- weights of which none is heavy
pub light_all : (ws : List Vector) → ((a : ℕ) → ¬ IsHeavyAt ws a) → All (IsWithin 1000000) ws
light_all ws light = All-from_get_or (IsWithin 1000000) ws [] (λ a l.
    light_coordinates (get_or ws a []) (λ heavy. (let e : a ≡ a + 1 - 1 = omega arith in
    light (a + 1) (omega arith, omega (arith, l), subst (λ i. IsHeavyWeight (get_or ws i [])) e heavy))))

-- ---- the first place
module _ (d : RootDatum) (v w : Module) where
  abbrev at : ℤ → ℕ
  at q = place (length d.positive) q

  -- powers of one root come by their number
  rising : (r : ℤ) (j k : ℕ) → Precedes d r j r k → j < k
  rising r j k (inl a) = absurd (omega (arith, a))
  rising r j k (inr a) = ⊎_elim (λ l. absurd (omega (arith, l))) (λ l. l.1) a.1

  pub found_start : IsFoundBefore d v w 0 None
  found_start q j n l = absurd (omega (arith, l))

  -- the root of a place
  module _ (p : ℕ) (r : ℤ) (number : IsNumber d r) (here : at r ≡ p) where
    split : (q : ℤ) → IsNumber d q → at q < p + 1 → (at q < p) ⊎ (q ≡ r)
    split q n l = ⊎_elim (λ m. inl m) (λ m. inr (same_place (length d.positive) q r (place_within d q n) (place_within d r number) (let e : at q ≡ at r = omega (arith, l, m, here) in e))) (within_or_past (at q) p)

    -- no power of it is huge
    module _ (small : (k : ℕ) → ¬ IsHugeMatrix (tensor_size v w r (suc k))) where
      none_here : (q : ℤ) (j : ℕ) → q ≡ r → ¬ IsHugeTensor d v w q j
      none_here q j e h = by j h.first (subst (λ t. IsHugeMatrix (tensor_size v w t j)) e h.huge)
        where
          by : (j : ℕ) → 1 ≤ j → IsHugeMatrix (tensor_size v w r j) → ⊥
          by zero l x = absurd (omega (arith, l))
          by (suc j) l x = small j x

      pub found_none : (found : Option (ℤ × ℕ)) → IsFoundBefore d v w p found → IsFoundBefore d v w (p + 1) found
      found_none None h = λ q j n l. ⊎_elim (λ a. h q j n a) (λ e. none_here q j e) (split q n l)
      found_none (Some f) h = (h.0, λ q j n l b. ⊎_elim (λ a. h.1 q j n a b) (λ e. none_here q j e) (split q n l))

    -- k is its first power that is
    module _ (k : ℕ) (first : IsFirstHugeProduct v w r k) where
      here_huge : IsHugeTensor d v w r k
      here_huge = record { number = number; first = first.first; huge = first.huge }

      earlier_small : (q : ℤ) (j : ℕ) → q ≡ r → (Precedes d r j r k) → ¬ IsHugeTensor d v w q j
      earlier_small q j e b h = first.before j h.first (rising r j k b) (subst (λ t. IsHugeMatrix (tensor_size v w t j)) e h.huge)

      pub found_some : (found : Option (ℤ × ℕ)) (n : ℤ × ℕ) → IsFoundBefore d v w p found → IsFirstOf d found r k n → IsFoundBefore d v w (p + 1) (Some n)
      found_some None n h e = subst (λ t. IsFoundBefore d v w (p + 1) (Some t)) (sym e)
          (here_huge, λ q j m l b. ⊎_elim (λ a. h q j m a) (λ c. earlier_small q j c (subst (λ t. Precedes d t j r k) c b)) (split q m l))
      found_some (Some f) n h e = ⊎_elim
          (λ x. subst (λ t. IsFoundBefore d v w (p + 1) (Some t)) (sym x.1)
          (h.0, λ q j m l b. ⊎_elim (λ a. h.1 q j m a b) (λ c. earlier_small q j c (precedes-trans d r f.0 r j f.1 k (subst (λ t. Precedes d t j f.0 f.1) c b) x.0)) (split q m l)))
          (λ x. subst (λ t. IsFoundBefore d v w (p + 1) (Some t)) (sym x.1)
          (here_huge, λ q j m l b. ⊎_elim (λ a. first_small f h x.0 q j m a b) (λ c. earlier_small q j c (subst (λ t. Precedes d t j r k) c b)) (split q m l)))
          e
        where
          first_small : (f : ℤ × ℕ) → IsFoundBefore d v w p (Some f) → ¬ Precedes d f.0 f.1 r k → (q : ℤ) (j : ℕ) → IsNumber d q → at q < p → Precedes d q j r k → ¬ IsHugeTensor d v w q j
          first_small f h late q j m a b = ⊎_elim (λ c. h.1 q j m a c)
              (λ c. ⊎_elim (λ g x. late (precedes-trans d f.0 q r f.1 j k g b))
              (λ g x. late (subst (λ t. Precedes d t f.1 r k) g.0 (subst (λ t. Precedes d q t r k) g.1 b))) c)
              (trichotomy d q f.0 j f.1 m h.0.number)

    -- the next place
    pub found_next : (power : Option ℕ) → MatchOption power ((k : ℕ) → ¬ IsHugeMatrix (tensor_size v w r (suc k))) (IsFirstHugeProduct v w r) →
        (found next : Option (ℤ × ℕ)) → IsFoundBefore d v w p found → IsFoundWith d found r power next → IsFoundBefore d v w (p + 1) next
    found_next None small found next h e = subst (IsFoundBefore d v w (p + 1)) (sym e) (found_none small found h)
    found_next (Some k) first found next h e = subst (IsFoundBefore d v w (p + 1)) (sym e.2) (found_some k first found e.0 h e.1)

  -- all roots are seen
  pub found_end : (p : ℕ) (found : Option (ℤ × ℕ)) → 2 * length d.positive ≤ p → IsFoundBefore d v w p found →
      MatchOption found ((r : ℤ) (k : ℕ) → ¬ IsHugeTensor d v w r k) (λ n. IsFirstHugeTensor d v w n.0 n.1)
  found_end p None l h = λ r k x. h r k x.number (let b = (place_within d r x.number).2 in omega (arith, l, b)) x
  found_end p (Some n) l h = record { huge = h.0; before = λ q j b x. h.1 q j x.number (let m = (place_within d q x.number).2 in omega (arith, l, m)) b x }

  pub found_number : (p : ℕ) (found : Option (ℤ × ℕ)) → IsFoundBefore d v w p found → IfSome found (λ n. IsNumber d n.0)
  found_number p None h = tt
  found_number p (Some n) h = h.0.number

  -- ---- the whole product
  -- the first p roots have their matrices
  pub record AreProducts (p : ℕ) (Mss : List (List (Matrix ℤ))) : Type 0 where
    pub count : length Mss ≡ p
    pub each : (i : ℕ) → i < p → AreTensorPowers v w (number_at (length d.positive) i) (get_or Mss i [])

  pub products_start : (Mss : List (List (Matrix ℤ))) → Mss ≡ [] → AreProducts 0 Mss
  products_start Mss e = record { count = ap (λ (t : List (List (Matrix ℤ))). length t) e; each = λ i l. absurd (omega (arith, l)) }

  pub products_push : (p : ℕ) (Mss Nss : List (List (Matrix ℤ))) (Ms : List (Matrix ℤ)) → AreProducts p Mss → AreTensorPowers v w (number_at (length d.positive) p) Ms → Nss ≡ Mss ++ Ms ∷ [] → AreProducts (p + 1) Nss
  products_push p Mss Nss Ms a t e = subst (AreProducts (p + 1)) (sym e) (record {
    count = let l = length-append Mss (Ms ∷ []) in let c = a.count in omega (arith, l, c);
    each = λ i l. ⊎_elim
        (λ m. subst (AreTensorPowers v w (number_at (length d.positive) i)) (sym (get_or_append_left Mss (Ms ∷ []) [] i (let c = a.count in omega (arith, m, c)))) (a.each i m))
        (λ m. (let c = a.count in
        let last : i ≡ length Mss + 0 = omega (arith, l, m, c) in
        let same : p ≡ i = omega (arith, l, m) in
        subst (AreTensorPowers v w (number_at (length d.positive) i)) (sym (ap (λ u. get_or (Mss ++ Ms ∷ []) u []) last ∙ get_or-append-add Mss (Ms ∷ []) 0 [])) (subst (λ u. AreTensorPowers v w (number_at (length d.positive) u) Ms) same t)))
        (within_or_past i p);
  })

  module _ (t : Module) (positive : t.positive ≡ length d.positive) (weights : t.weights ≡ tensor_weights v w) (all : AreProducts (2 * length d.positive) t.powers) where
    size : dimension t ≡ dimension v * dimension w
    size = ap (λ (ws : List Vector). length ws) weights ∙ length-added v.weights w.weights

    powers_of : (r : ℤ) → IsNumber d r → AreTensorPowers v w r (divided_powers t r)
    powers_of r n =
        let l = (place_within d r n).2 in
        subst (λ m. AreTensorPowers v w r (get_or t.powers (place m r) [])) (sym positive)
        (subst (λ q. AreTensorPowers v w q (get_or t.powers (at r) [])) (number_place d r n) (all.each (at r) l))

    power_is : (r : ℤ) (k : ℕ) → IsNumber d r → divided_power t r (suc k) ≡ matrix_at (dimension v * dimension w) (divided_powers t r) k
    power_is r k n = ap (λ u. get_or (divided_powers t r) k (zero_matrix (pos 0) u u)) size

    pub product_module : IsModule d t
    product_module = record {
      positive = positive;
      roots = all.count;
      square = λ r k n l. (let M = divided_power t r (suc k) in
          let q = (powers_of r n).kept.squares k (zero_matrix (pos 0) (dimension t) (dimension t)) l in
          q.shaped ∙ ap₂ (λ h u. table h u (entry (pos 0) M)) (q.height ∙ sym size) (q.width ∙ sym size));
      last = λ r k n l z. (powers_of r n).last k l (sym (power_is r k n) ∙ z ∙ ap (λ u. zero_matrix (pos 0) u u) size);
    }

    pub product_is : IsTensor d v w t
    product_is = record { shape = product_module; weights = weights; powers = λ r k n one. by r k n one }
      where
        by : (r : ℤ) (k : ℕ) → IsNumber d r → 1 ≤ k → divided_power t r k ≡ tensor_power v w r k
        by r zero n l = absurd (omega (arith, l))
        by r (suc k) n l = power_is r k n ∙ (powers_of r n).each k

    pub product_kept : length d.positive ≤ 120 → dimension v * dimension w ≤ 300 → All (IsWithin 1000000) t.weights → IsKeptModule t
    product_kept small few light = record {
      small = omega (arith, positive, small);
      narrow = let s = size in omega (arith, s, few);
      light = light;
      roots = let c = all.count in omega (arith, c, positive);
      powers = All-from_get_or (ArePowers (dimension t)) t.powers [] (λ i l. subst (λ n. ArePowers n (get_or t.powers i [])) (sym size) (all.each i (let c = all.count in omega (arith, l, c))).kept);
    }
