-- How the sum of the squares of the pairings with all coroots falls when a weight is lowered.
use Rattle.std.proofs.Common.{◌≡◌, ℕ, zero, suc, ◌+◌, ◌*◌, ◌^◌, ◌<◌, ◌≤◌, ℤ, pos, negsuc, neg_ℤ, ◌+ℤ◌, ◌*ℤ◌, ◌≤ℤ◌, List, [], ◌∷◌, length, refl, sym, ap, subst, ◌∙◌, arith, unsigned_abs, ⊎_elim}
use Rattle.std.proofs.lemmas.Int.{ints}
use Rattle.std.proofs.Math.Nat.{mul-le-mul_left}
use Rattle.lie_base.proofs.RingSolver.{ring, var, neg, ◌⊕◌, ◌⊗◌}
use Rattle.lie_base.proofs.Members.{In, here, there}
use Rattle.lie_datum.specs.Vectors.{Vector, pairing, times, total, entry}
use Rattle.lie_datum.specs.declared.root_pair.Root.{Root}
use Rattle.lie_datum.specs.RootDatum.{covector, vector, IsRoot, IsWithin}
use Rattle.lie_datum.specs.RootList.{RootDatum, root_of, IsNumber, IsLoaded, all_roots, form, length2}
use Rattle.lie_datum.proofs.Entries.{entry-plus, entry-times, within_or_past}
use Rattle.lie_datum.proofs.Linear.{pairing-plus, pairing-times, pairing_comm}
use Rattle.lie_datum.proofs.Turns.{pairing-combination-times}
use Rattle.lie_datum.proofs.Squares.{squares_not_negative, square_within}
use Rattle.lie_datum.proofs.FormLaw.{form_comm, form_linear}
use Rattle.lie_datum.proofs.ClosureLemmas.{pigeonhole, in_from_contains}
use Rattle.lie_datum.proofs.LoadedLaws.{all_only, all_in, all_simple, self, first}
use Rattle.lie_datum.proofs.SignedRoots.{root_is, number_is, opposite_number}
use Rattle.lie_datum.proofs.VectorLemmas.{entry_within, abs_add, abs_mul, abs_neg}
use Rattle.lie_orbit.specs.Weights.{coroot_pairing, IsMinuscule}
use Rattle.lie_orbit.specs.Lowering.{IsHalf, IsHighRoot, IsLow, IsFirstHigh, less_root, Lowers, step}
use Rattle.lie_orbit.proofs.WeightLemmas.{covector_within, root_within, from_entries}

-- ---- numbers
-- half of a number from 2 on is positive
half_positive : (m c : ℤ) → pos 2 ≤ℤ m → IsHalf m c → pos 1 ≤ℤ c
half_positive m c h e = let p = e.1 in omega (arith, ints, h, p)

-- and is at most the other half
half_rest : (m c : ℤ) → pos 2 ≤ℤ m → IsHalf m c → pos 1 ≤ℤ (m +ℤ neg_ℤ c)
half_rest m c h e = let p = e.0 in let q = e.1 in omega (arith, ints, h, p, q)

-- a product with a factor from 1 on, and with one from 4 on
product_four : (c e n : ℤ) → pos 1 ≤ℤ c → pos 1 ≤ℤ e → pos 4 ≤ℤ n → (pos 4 *ℤ c) ≤ℤ (c *ℤ e *ℤ n)
product_four (pos c) (pos e) (pos n) p q r =
    let a = mul-le-mul_left c (natural 1 e q) in
    let b = mul-le-mul_left (c * e) (natural 4 n r) in
    let one : c * 1 ≡ c = omega arith in
    omega (arith, ints, a, b, one)
  where
    natural : (a b : ℕ) → pos a ≤ℤ pos b → a ≤ b
    natural a b h = omega (arith, ints, h)
product_four (negsuc c) e n p q r = absurd (omega (arith, ints, p))
product_four (pos c) (negsuc e) n p q r = absurd (omega (arith, ints, q))
product_four (pos c) (pos e) (negsuc n) p q r = absurd (omega (arith, ints, r))

-- a number is at most its square
abs_square : (m : ℤ) → unsigned_abs m ≤ unsigned_abs (m *ℤ m)
abs_square m = below m
  where
    at_least : (n : ℕ) → n ≤ n * n
    at_least zero = omega arith
    at_least (suc n) = omega arith

    below : (m : ℤ) → unsigned_abs m ≤ unsigned_abs (m *ℤ m)
    below (pos n) = at_least n
    below (negsuc n) = at_least (suc n)

abs_of : (z : ℤ) (n : ℕ) → pos 0 ≤ℤ z → z ≤ℤ pos n → unsigned_abs z ≤ n
abs_of (pos k) n p q = omega (arith, ints, q)
abs_of (negsuc k) n p q = absurd (omega (arith, ints, p))

abs_mono : (a b : ℤ) → pos 0 ≤ℤ a → a ≤ℤ b → unsigned_abs a ≤ unsigned_abs b
abs_mono (pos a) (pos b) p q = omega (arith, ints, q)
abs_mono (pos a) (negsuc b) p q = absurd (omega (arith, ints, q))
abs_mono (negsuc a) b p q = absurd (omega (arith, ints, p))

below_abs : (z : ℤ) (n : ℕ) → unsigned_abs z ≤ n → z ≤ℤ pos n
below_abs (pos k) n l = omega (arith, ints, l)
below_abs (negsuc k) n l = omega (arith, ints)

square_below : (m : ℤ) (n : ℕ) → unsigned_abs m ≤ n → (m *ℤ m) ≤ℤ pos (n * n)
square_below m n h = below_abs (m *ℤ m) (n * n) (abs_mul m m n n h h)

square_positive : (m : ℤ) → pos 0 ≤ℤ (m *ℤ m)
square_positive (pos n) = omega (arith, ints)
square_positive (negsuc n) = omega (arith, ints)

minus_one : (z : ℤ) → negsuc 0 *ℤ z ≡ neg_ℤ z
minus_one z = omega (arith, ints)

-- ---- sums
total_below : {A : Type 0} (f : A → ℤ) (n : ℕ) (xs : List A) → ((x : A) → In x xs → f x ≤ℤ pos n) → total f xs ≤ℤ pos (n * length xs)
total_below f n [] h = omega (arith, ints)
total_below f n (x ∷ xs) h = let l = total_below f n xs (λ y p. h y (there p)) in let k = h x (here refl) in omega (arith, ints, l, k)

-- the pairing of a weight that may be lowered with a coroot
abs_coroot_pairing : (x y : Vector) → IsWithin 8000001 x → IsWithin 80000 y → unsigned_abs (pairing x y) ≤ 640000080000 * length x
abs_coroot_pairing [] y p q = omega arith
abs_coroot_pairing (a ∷ x) [] p q = omega arith
abs_coroot_pairing (a ∷ x) (b ∷ y) p q =
    let h = abs_coroot_pairing x y (λ k z l. p (suc k) z (omega (arith, l))) (λ k z l. q (suc k) z (omega (arith, l))) in
    let s = abs_add (a *ℤ b) (pairing x y) in
    let m = abs_mul a b 8000001 80000 (p zero (pos 0) (omega arith)) (q zero (pos 0) (omega arith)) in
    omega (arith, h, s, m)

-- the sum of the squares of the pairings with all coroots
abbrev pub norm : RootDatum → Vector → ℕ
norm d x = unsigned_abs (form d x x)

-- the weight w is on the way from v: each entry has moved no further than the norm has fallen
pub record IsOnTheWay (d : RootDatum) (v w : Vector) : Type 0 where
  pub leads : (y : Vector) → Lowers d w y → Lowers d v y
  pub near : (k : ℕ) → unsigned_abs (entry w k) + 20000 * norm d w ≤ 8000001 + 20000 * norm d v

-- a weight is on the way from itself
pub way_start : (d : RootDatum) (v : Vector) → IsWithin 8000001 v → IsOnTheWay d v v
way_start d v small = record { leads = λ y l. l; near = λ k. (let e = entry_within 8000001 v k small in omega (arith, e)) }

module _ (d : RootDatum) (loaded : IsLoaded d) where
  -- ---- the norm
  form_positive : (x : Vector) → pos 0 ≤ℤ form d x x
  form_positive x = squares_not_negative (λ s. pairing x (covector d.base s)) (all_roots d)

  length_four : (r : Root) → IsRoot d.base r → pos 4 ≤ℤ length2 d r
  length_four r p =
      let f : Root → ℤ = λ s. pairing (vector d.base r) (covector d.base s) in
      let least = square_within f r (all_roots d) (all_in d loaded r p) in
      let two = ap (λ t. t *ℤ f r) (self d loaded r p) ∙ ap (λ t. pos 2 *ℤ t) (self d loaded r p) in
      omega (arith, ints, least, two)

  pub pairing_norm : (x : Vector) (r : ℤ) → IsNumber d r → unsigned_abs (coroot_pairing d x r) ≤ norm d x
  pairing_norm x r n =
      let f : Root → ℤ = λ s. pairing x (covector d.base s) in
      let least = square_within f (root_of d r) (all_roots d) (all_in d loaded (root_of d r) (root_is d loaded r n)) in
      let m = coroot_pairing d x r in
      let a = abs_square m in
      let b = abs_mono (m *ℤ m) (form d x x) (square_positive m) least in
      omega (arith, a, b)

  -- at most 240 squares
  pub norm_start : (v : Vector) → length v ≡ 8 → IsWithin 8000001 v → norm d v ≤ 63 * 10 ^ 26
  norm_start v long small =
      let bound = total_below (λ s. pairing v (covector d.base s) *ℤ pairing v (covector d.base s)) (5120000640000 * 5120000640000) (all_roots d) (λ s q. square s (all_only d loaded s q)) in
      let f = loaded.axioms.finite in
      let few = pigeonhole (all_roots d) f.count.0 (all_simple d loaded) (λ s q. in_from_contains f.count.0 s (f.count.2 s (all_only d loaded s q))) in
      let count = f.count.1 in
      abs_of (form d v v) (63 * 10 ^ 26) (form_positive v) (omega (arith, ints, bound, few, count))
    where
      square : (s : Root) → IsRoot d.base s → (pairing v (covector d.base s) *ℤ pairing v (covector d.base s)) ≤ℤ pos (5120000640000 * 5120000640000)
      square s p =
          let q = number_is d loaded s p in
          let within = subst (λ t. IsWithin 80000 (covector d.base t)) q.2 (covector_within d loaded q.0 q.1) in
          let b = abs_coroot_pairing v (covector d.base s) small within in
          square_below (pairing v (covector d.base s)) 5120000640000 (omega (arith, b, long))

  -- ---- one step
  norm_less : (x : Vector) (r c : ℤ) → IsNumber d r →
      form d (less_root d x c r) (less_root d x c r) +ℤ c *ℤ (coroot_pairing d x r +ℤ neg_ℤ c) *ℤ length2 d (root_of d r) ≡ form d x x
  norm_less x r c number =
      let a = vector d.base (root_of d r) in
      let w = less_root d x c r in
      let rs = all_roots d in
      let law = (first d loaded (root_of d r) (root_is d loaded r number)).0 x in
      let turn : (s : Root) → pairing w (covector d.base s) ≡ pairing x (covector d.base s) +ℤ neg_ℤ c *ℤ pairing a (covector d.base s) = λ s.
      pairing-plus x (times (neg_ℤ c) a) (covector d.base s) ∙ ap (λ t. pairing x (covector d.base s) +ℤ t) (pairing-times (neg_ℤ c) a (covector d.base s)) in
      let ww = form_linear d.base rs w x a w (neg_ℤ c) turn in
      let wx = form_comm d.base rs w x ∙ form_linear d.base rs x x a w (neg_ℤ c) turn in
      let wa = form_comm d.base rs w a ∙ form_linear d.base rs a x a w (neg_ℤ c) turn ∙ ap (λ t. t +ℤ neg_ℤ c *ℤ form d a a) (form_comm d.base rs a x) in
      solve c (coroot_pairing d x r) (length2 d (root_of d r)) (form d x a) (form d x x) (form d w x) (form d w a) (form d w w) law ww wx wa
    where
      -- 2 f = m n, and the square of x - c a
      solve : (c m n f q u v t : ℤ) → pos 2 *ℤ f ≡ m *ℤ n → t ≡ u +ℤ neg_ℤ c *ℤ v → u ≡ q +ℤ neg_ℤ c *ℤ f → v ≡ f +ℤ neg_ℤ c *ℤ n → t +ℤ c *ℤ (m +ℤ neg_ℤ c) *ℤ n ≡ q
      solve c m n f q u v t law a b e =
          let one = ap (λ s. s +ℤ c *ℤ (m +ℤ neg_ℤ c) *ℤ n) (a ∙ ap (λ s. s +ℤ neg_ℤ c *ℤ v) b ∙ ap (λ s. q +ℤ neg_ℤ c *ℤ f +ℤ neg_ℤ c *ℤ s) e) in
          let two = ring (c ∷ (m ∷ (n ∷ (f ∷ (q ∷ []))))) (var 4 ⊕ neg (var 0) ⊗ var 3 ⊕ neg (var 0) ⊗ (var 3 ⊕ neg (var 0) ⊗ var 2) ⊕ var 0 ⊗ (var 1 ⊕ neg (var 0)) ⊗ var 2)
          (var 4 ⊕ var 0 ⊗ (var 1 ⊗ var 2 ⊕ neg (var 3 ⊕ var 3))) refl in
          let three : m *ℤ n +ℤ neg_ℤ (f +ℤ f) ≡ pos 0 = omega (arith, ints, law) in
          let four = ap (λ s. q +ℤ c *ℤ s) three in
          let five : q +ℤ c *ℤ pos 0 ≡ q = omega (arith, ints) in
          one ∙ two ∙ four ∙ five

  -- the norm falls by four times what is taken away
  pub norm_falls : (x : Vector) (r c : ℤ) → IsNumber d r → IsHighRoot d x r → IsHalf (coroot_pairing d x r) c → norm d (less_root d x c r) + 4 * unsigned_abs c ≤ norm d x
  norm_falls x r c number high half =
      let m = coroot_pairing d x r in
      let n = length2 d (root_of d r) in
      let w = less_root d x c r in
      let one = half_positive m c high half in
      let four = product_four c (m +ℤ neg_ℤ c) n one (half_rest m c high half) (length_four (root_of d r) (root_is d loaded r number)) in
      falls (form d w w) (form d x x) c (c *ℤ (m +ℤ neg_ℤ c) *ℤ n) (form_positive w) one four (norm_less x r c number)
    where
      falls : (t q c f : ℤ) → pos 0 ≤ℤ t → pos 1 ≤ℤ c → (pos 4 *ℤ c) ≤ℤ f → t +ℤ f ≡ q → unsigned_abs t + 4 * unsigned_abs c ≤ unsigned_abs q
      falls (pos t) (pos q) (pos c) f p o l e = omega (arith, ints, l, e)
      falls (negsuc t) q c f p o l e = absurd (omega (arith, ints, p))
      falls (pos t) q (negsuc c) f p o l e = absurd (omega (arith, ints, o))
      falls (pos t) (negsuc q) (pos c) f p o l e = absurd (omega (arith, ints, l, e))

  pub on_the_way : (v w : Vector) (r c : ℤ) → IsOnTheWay d v w → IsFirstHigh d w r → IsHalf (coroot_pairing d w r) c → IsOnTheWay d v (less_root d w c r)
  on_the_way v w r c way high half = record {
    leads = λ y l. way.leads y (step w y r c high half l);
    near = λ k.
        (let a = vector d.base (root_of d r) in
        let e = entry-plus w (times (neg_ℤ c) a) k ∙ ap (λ t. entry w k +ℤ t) (entry-times (neg_ℤ c) a k) in
        let s1 = abs_add (entry w k) (neg_ℤ c *ℤ entry a k) in
        let s2 = abs_mul (neg_ℤ c) (entry a k) (unsigned_abs c) 80000 (let f = abs_neg c in omega (arith, f)) (entry_within 80000 a k (root_within d loaded r high.number)) in
        let s3 = norm_falls w r c high.number high.high half in
        let s4 = way.near k in
        let s5 = ap unsigned_abs e in
        omega (arith, s1, s2, s3, s4, s5));
  }

  pub half_falls : (w : Vector) (r c : ℤ) → IsFirstHigh d w r → IsHalf (coroot_pairing d w r) c → norm d (less_root d w c r) < norm d w
  half_falls w r c high half =
      let f = norm_falls w r c high.number high.high half in
      let o = some c (half_positive (coroot_pairing d w r) c high.high half) in
      omega (arith, f, o)
    where
      some : (c : ℤ) → pos 1 ≤ℤ c → 1 ≤ unsigned_abs c
      some (pos c) h = omega (arith, ints, h)
      some (negsuc c) h = absurd (omega (arith, ints, h))

  -- ---- the bounds of the numbers that are met
  pub way_within : (v w : Vector) → length v ≡ 8 → IsWithin 8000001 v → IsOnTheWay d v w → IsWithin (2 * 10 ^ 32) w
  way_within v w long small way = from_entries (2 * 10 ^ 32) w (λ k. (let n = way.near k in let b = norm_start v long small in omega (arith, n, b)))

  pub way_pairing : (v w : Vector) (r : ℤ) → length v ≡ 8 → IsWithin 8000001 v → IsOnTheWay d v w → IsNumber d r → coroot_pairing d w r ≤ℤ pos (10 ^ 32)
  way_pairing v w r long small way number =
      let n = way.near 0 in
      let b = norm_start v long small in
      let p = pairing_norm w r number in
      below_abs (coroot_pairing d w r) (10 ^ 32) (omega (arith, n, b, p))

  -- ---- the end
  pub low_minuscule : (x : Vector) → IsLow d x → IsMinuscule d x
  low_minuscule x low r number = by (coroot_pairing d x r) refl
    where
      turned : coroot_pairing d x (neg_ℤ r) ≡ neg_ℤ (coroot_pairing d x r)
      turned =
          let s = root_of d r in
          ap (λ t. pairing x (covector d.base t)) (opposite_number d r number).1
          ∙ pairing_comm x _ ∙ pairing-combination-times (negsuc 0) s.co_coeffs d.base.coroots x ∙ ap (λ t. negsuc 0 *ℤ t) (pairing_comm (covector d.base s) x) ∙ minus_one (pairing x (covector d.base s))

      by : (m : ℤ) → coroot_pairing d x r ≡ m → unsigned_abs (coroot_pairing d x r) ≤ 1
      by (pos n) e = subst (λ t. unsigned_abs t ≤ 1) (sym e) (⊎_elim (λ l. omega (arith, l)) (λ l. absurd (low r number (omega (arith, ints, l, e)))) (within_or_past n 2))
      by (negsuc n) e = subst (λ t. unsigned_abs t ≤ 1) (sym e) (⊎_elim (λ l. omega (arith, l)) (λ l. absurd (low (neg_ℤ r) (opposite_number d r number).0 (let t = turned ∙ ap neg_ℤ e in omega (arith, ints, l, t)))) (within_or_past n 1))
