-- A sum of roots that pairs with each coroot to at most 1 is 0: a shortest list with that sum has no two members with a
-- negative form, so the form of the sum is at least the sum of the squares of lengths, and at most half of it.
use Rattle.std.proofs.Common.{◌≡◌, ◌≢◌, ℕ, zero, suc, ◌≤◌, ℤ, pos, negsuc, ◌+ℤ◌, ◌*ℤ◌, ◌≤ℤ◌, ◌<ℤ◌, List, [], ◌∷◌, length, map, refl, sym, ap, subst, ◌∙◌, arith, ◌⊎◌, inl, inr, ⊎_elim, unsigned_abs}
use Rattle.std.proofs.lemmas.Int.{ints}
use Rattle.std.proofs.Math.IntN.{zero-*ℤ, *ℤ-zero}
use Rattle.std.specs.List.{Contains}
use Rattle.lie_base.proofs.RingSolver.{ring, var, neg, ◌⊗◌}
use Rattle.lie_base.proofs.Members.{In, here, there}
use Rattle.lie_datum.specs.Vectors.{Vector, pairing, plus, times, total, entry}
use Rattle.lie_datum.specs.declared.root_pair.Root.{Root}
use Rattle.lie_datum.specs.RootDatum.{IsRoot, vector, covector, opposite, root_pairing}
use Rattle.lie_datum.specs.RootList.{RootDatum, IsLoaded, all_roots, form, length2}
use Rattle.lie_datum.proofs.Entries.{entry-plus}
use Rattle.lie_datum.proofs.Linear.{pairing-plus, pairing-times}
use Rattle.lie_datum.proofs.VectorLemmas.{entry-combination}
use Rattle.lie_datum.proofs.FormLaw.{form_comm, form_linear}
use Rattle.lie_datum.proofs.NormBound.{same_or_not, product_positive, length_positive}
use Rattle.lie_datum.proofs.ClosureLemmas.{contains_from_in}
use Rattle.lie_datum.proofs.LoadedLaws.{first, second}
use Rattle.lie_datum.proofs.SignedRoots.{number_is}
use Rattle.lie_orbit.specs.Weights.{coroot_pairing, IsMinuscule}
use Rattle.lie_orbit.specs.Laws.{root_sum, IsZero, SmallSumsVanish}

-- ---- vectors with the same entries
abbrev Same : Vector → Vector → Type 0
Same x y = (k : ℕ) → entry x k ≡ entry y k

same_pairing : (x y z : Vector) → ((k : ℕ) → entry x k ≡ entry y k) → pairing x z ≡ pairing y z
same_pairing [] [] z h = refl
same_pairing [] (b ∷ y) [] h = refl
same_pairing [] (b ∷ y) (c ∷ z) h =
    let rest : pos 0 ≡ pairing y z = same_pairing [] y z (λ k. h (suc k)) in
    let product : b *ℤ c ≡ pos 0 = ap (λ t. t *ℤ c) (sym (h zero)) ∙ zero-*ℤ c in
    omega (arith, ints, rest, product)
same_pairing (a ∷ x) [] [] h = refl
same_pairing (a ∷ x) [] (c ∷ z) h =
    let rest : pairing x z ≡ pos 0 = same_pairing x [] z (λ k. h (suc k)) in
    let product : a *ℤ c ≡ pos 0 = ap (λ t. t *ℤ c) (h zero) ∙ zero-*ℤ c in
    omega (arith, ints, rest, product)
same_pairing (a ∷ x) (b ∷ y) [] h = refl
same_pairing (a ∷ x) (b ∷ y) (c ∷ z) h = ap (λ t. t *ℤ c +ℤ pairing x z) (h zero) ∙ ap (λ t. b *ℤ c +ℤ t) (same_pairing x y z (λ k. h (suc k)))

-- ---- numbers
-- the sign of one factor is that of the product, beside a positive factor
negative_factor : (m n : ℤ) → pos 0 <ℤ n → (m *ℤ n) <ℤ pos 0 → m <ℤ pos 0
negative_factor (pos zero) n p q = absurd (let e : pos 0 *ℤ n ≡ pos 0 = omega (arith, ints) in omega (arith, ints, q, e))
negative_factor (pos (suc m)) n p q = absurd (let l = product_positive (pos (suc m)) n (omega (arith, ints)) p in omega (arith, ints, l, q))
negative_factor (negsuc m) n p q = omega (arith, ints)

-- a factor of at most 1
small_factor : (m n : ℤ) → m ≤ℤ pos 1 → pos 0 <ℤ n → (m *ℤ n) ≤ℤ n
small_factor (pos zero) n h p = omega (arith, ints, p)
small_factor (pos (suc zero)) n h p = omega (arith, ints, p)
small_factor (pos (suc (suc m))) n h p = absurd (omega (arith, ints, h))
small_factor (negsuc m) n h p =
    let l = product_positive (pos (suc m)) n (omega (arith, ints)) p in
    let e = ring (pos (suc m) ∷ (n ∷ [])) (neg (var 0) ⊗ var 1) (neg (var 0 ⊗ var 1)) refl in
    omega (arith, ints, l, e, p)

module _ (d : RootDatum) (loaded : IsLoaded d) where
  abbrev V : Root → Vector
  V r = vector d.base r

  abbrev AllRoots : List Root → Type 0
  AllRoots [] = Unit {0}
  AllRoots (r ∷ rs) = IsRoot d.base r × AllRoots rs

  -- the sum of the squares of the lengths
  abbrev sizes : List Root → ℤ
  sizes [] = pos 0
  sizes (r ∷ rs) = length2 d r +ℤ sizes rs

  -- ---- the form
  form_nothing : (x : Vector) → form d x [] ≡ pos 0
  form_nothing x = by (all_roots d)
    where
      by : (rs : List Root) → total (λ s. pairing x (covector d.base s) *ℤ pairing [] (covector d.base s)) rs ≡ pos 0
      by [] = refl
      by (s ∷ rs) = let h = by rs in let z = *ℤ-zero (pairing x (covector d.base s)) in omega (arith, ints, h, z)

  form_plus : (x y z : Vector) → form d x (plus y z) ≡ form d x y +ℤ form d x z
  form_plus x y z =
      form_linear d.base (all_roots d) x y z (plus y z) (pos 1) (λ s. pairing-plus y z (covector d.base s) ∙ once (pairing y (covector d.base s)) (pairing z (covector d.base s)))
      ∙ sym (once (form d x y) (form d x z))
    where
      once : (a b : ℤ) → a +ℤ b ≡ a +ℤ pos 1 *ℤ b
      once a b = omega (arith, ints)

  commutes : (x y : Vector) → form d x y ≡ form d y x
  commutes x y = form_comm d.base (all_roots d) x y

  -- ---- two roots
  -- roots with a negative form are opposite, or their sum is a root
  join : (r s : Root) → IsRoot d.base r → IsRoot d.base s → form d (V r) (V s) <ℤ pos 0 → Same (plus (V r) (V s)) [] ⊎ ((t : Root) × IsRoot d.base t × Same (V t) (plus (V r) (V s)))
  join r s p q negative = ⊎_elim (λ e. inl (none e)) (λ n. inr (some n)) (same_or_not r (opposite s))
    where
      law : pos 2 *ℤ form d (V r) (V s) ≡ root_pairing d.base r s *ℤ length2 d s
      law = (first d loaded s q).0 (V r)

      pairs : root_pairing d.base r s <ℤ pos 0
      pairs = negative_factor (root_pairing d.base r s) (length2 d s) (length_positive d loaded s q) (let e = law in omega (arith, ints, e, negative))

      none : r ≡ opposite s → Same (plus (V r) (V s)) []
      none e k =
          let column = map (λ v. entry v k) d.base.roots in
          let minus_one = entry-combination (times (negsuc 0) s.coeffs) d.base.roots k ∙ pairing-times (negsuc 0) s.coeffs column in
          let plain = entry-combination s.coeffs d.base.roots k in
          let read = ap (λ t. entry (V t) k) e in
          let sum = entry-plus (V r) (V s) k in
          omega (arith, ints, minus_one, plain, read, sum)

      some : r ≢ opposite s → (t : Root) × IsRoot d.base t × Same (V t) (plus (V r) (V s))
      some n =
          let t = (second d loaded).sum r s p q n (inl pairs) in (
            t.0,
            t.1,
            λ k.
                (let column = map (λ v. entry v k) d.base.roots in
                entry-combination t.0.coeffs d.base.roots k ∙ ap (λ c. pairing c column) t.2 ∙ pairing-plus r.coeffs s.coeffs column
                ∙ ap (λ z. z +ℤ pairing s.coeffs column) (sym (entry-combination r.coeffs d.base.roots k)) ∙ ap (λ z. entry (V r) k +ℤ z) (sym (entry-combination s.coeffs d.base.roots k))
                ∙ sym (entry-plus (V r) (V s) k)),
          )

  sign : (r s : Root) → (form d (V r) (V s) <ℤ pos 0) ⊎ (pos 0 ≤ℤ form d (V r) (V s))
  sign r s = by (form d (V r) (V s))
    where
      by : (z : ℤ) → (z <ℤ pos 0) ⊎ (pos 0 ≤ℤ z)
      by (pos n) = inr (omega (arith, ints))
      by (negsuc n) = inl (omega (arith, ints))

  -- ---- lists of roots
  -- r has no negative form with a member
  abbrev NonNegative : Root → List Root → Type 0
  NonNegative r [] = Unit {0}
  NonNegative r (s ∷ rs) = (pos 0 ≤ℤ form d (V r) (V s)) × NonNegative r rs

  -- no two members have a negative form
  abbrev Sharp : List Root → Type 0
  Sharp [] = Unit {0}
  Sharp (r ∷ rs) = NonNegative r rs × Sharp rs

  -- a root is added to a list, or merged with a member
  against : (r : Root) (rs : List Root) → IsRoot d.base r → AllRoots rs → NonNegative r rs ⊎ ((qs : List Root) × AllRoots qs × (length qs ≤ length rs) × Same (root_sum d.base qs) (plus (V r) (root_sum d.base rs)))
  against r [] p a = inl tt
  against r (s ∷ rs) p a =
      ⊎_elim (λ negative. inr (⊎_elim (λ o. (rs, a.1, omega arith, dropped o)) (λ t. (t.0 ∷ rs, (t.1, a.1), omega arith, merged t.0 t.2)) (join r s p a.0 negative)))
      (λ fine. ⊎_elim (λ rest. inl (fine, rest)) (λ q. inr (s ∷ q.0, (a.0, q.1), (let l = q.2 in omega (arith, l)), passed q.0 q.3)) (against r rs p a.1)) (sign r s)
    where
      whole : (k : ℕ) → entry (plus (V r) (plus (V s) (root_sum d.base rs))) k ≡ entry (V r) k +ℤ (entry (V s) k +ℤ entry (root_sum d.base rs) k)
      whole k = entry-plus (V r) (plus (V s) (root_sum d.base rs)) k ∙ ap (λ t. entry (V r) k +ℤ t) (entry-plus (V s) (root_sum d.base rs) k)

      dropped : Same (plus (V r) (V s)) [] → Same (root_sum d.base rs) (plus (V r) (plus (V s) (root_sum d.base rs)))
      dropped o k = let e = o k in let f = entry-plus (V r) (V s) k in let g = whole k in omega (arith, ints, e, f, g)

      merged : (t : Root) → Same (V t) (plus (V r) (V s)) → Same (plus (V t) (root_sum d.base rs)) (plus (V r) (plus (V s) (root_sum d.base rs)))
      merged t h k = let e = h k in let f = entry-plus (V r) (V s) k in let g = whole k in let l = entry-plus (V t) (root_sum d.base rs) k in omega (arith, ints, e, f, g, l)

      passed : (qs : List Root) → Same (root_sum d.base qs) (plus (V r) (root_sum d.base rs)) → Same (plus (V s) (root_sum d.base qs)) (plus (V r) (plus (V s) (root_sum d.base rs)))
      passed qs h k =
          let e = h k in
          let f = entry-plus (V r) (root_sum d.base rs) k in
          let g = whole k in
          let l = entry-plus (V s) (root_sum d.base qs) k in
          omega (arith, ints, e, f, g, l)

  -- no two members have a negative form, or fewer roots have the same sum
  sharpen : (rs : List Root) → AllRoots rs → Sharp rs ⊎ ((qs : List Root) × AllRoots qs × (suc (length qs) ≤ length rs) × Same (root_sum d.base qs) (root_sum d.base rs))
  sharpen [] a = inl tt
  sharpen (r ∷ rs) a =
      ⊎_elim (λ rest. ⊎_elim (λ fine. inl (fine, rest)) (λ q. inr (q.0, q.1, (let l = q.2 in omega (arith, l)), q.3)) (against r rs a.0 a.1))
      (λ q. inr (
        r ∷ q.0,
        (a.0, q.1),
        (let l = q.2 in omega (arith, l)),
        λ k.
            (let e = q.3 k in
            let f = entry-plus (V r) (root_sum d.base q.0) k in
            let g = entry-plus (V r) (root_sum d.base rs) k in
            omega (arith, ints, e, f, g)),
      )) (sharpen rs a.1)

  form_sum : (r : Root) (rs : List Root) → NonNegative r rs → pos 0 ≤ℤ form d (V r) (root_sum d.base rs)
  form_sum r [] n = let e = form_nothing (V r) in omega (arith, ints, e)
  form_sum r (s ∷ rs) n = let e = form_plus (V r) (V s) (root_sum d.base rs) in let h = form_sum r rs n.1 in let f = n.0 in omega (arith, ints, e, h, f)

  -- the form of the sum is at least the sum of the squares of the lengths
  large : (rs : List Root) → Sharp rs → sizes rs ≤ℤ form d (root_sum d.base rs) (root_sum d.base rs)
  large [] s = let e = form_nothing [] in omega (arith, ints, e)
  large (r ∷ rs) s =
      let t = root_sum d.base rs in
      let v = plus (V r) t in
      let a = form_plus v (V r) t in
      let b = commutes v (V r) in
      let c = form_plus (V r) (V r) t in
      let e = commutes v t in
      let f = form_plus t (V r) t in
      let g = commutes t (V r) in
      let h = form_sum r rs s.0 in
      let l = large rs s.1 in
      omega (arith, ints, a, b, c, e, f, g, h, l)

  -- and twice the form with a small vector is at most that sum
  small : (x : Vector) → ((r : Root) → IsRoot d.base r → pairing x (covector d.base r) ≤ℤ pos 1) → (rs : List Root) → AllRoots rs → (form d x (root_sum d.base rs) +ℤ form d x (root_sum d.base rs)) ≤ℤ sizes rs
  small x h [] a = let e = form_nothing x in omega (arith, ints, e)
  small x h (r ∷ rs) a =
      let e = form_plus x (V r) (root_sum d.base rs) in
      let law = (first d loaded r a.0).0 x in
      let one = small_factor (pairing x (covector d.base r)) (length2 d r) (h r a.0) (length_positive d loaded r a.0) in
      let rest = small x h rs a.1 in
      omega (arith, ints, e, law, one, rest)

  sizes_least : (rs : List Root) → AllRoots rs → pos 0 ≤ℤ sizes rs
  sizes_least [] a = omega (arith, ints)
  sizes_least (r ∷ rs) a = let l = length_positive d loaded r a.0 in let h = sizes_least rs a.1 in omega (arith, ints, l, h)

  sizes_none : (rs : List Root) → AllRoots rs → sizes rs ≤ℤ pos 0 → IsZero (root_sum d.base rs)
  sizes_none [] a h = λ k. refl
  sizes_none (r ∷ rs) a h = absurd (let l = length_positive d loaded r a.0 in let m = sizes_least rs a.1 in omega (arith, ints, l, m, h))

  by_length : (n : ℕ) (rs : List Root) → AllRoots rs → length rs ≤ n → ((r : Root) → IsRoot d.base r → pairing (root_sum d.base rs) (covector d.base r) ≤ℤ pos 1) → IsZero (root_sum d.base rs)
  by_length zero [] a b h = λ k. refl
  by_length zero (r ∷ rs) a b h = absurd (omega (arith, b))
  by_length (suc n) rs a b h =
      ⊎_elim (λ sharp. sizes_none rs a (let l = large rs sharp in let u = small (root_sum d.base rs) h rs a in omega (arith, ints, l, u)))
      (λ q k. sym (q.3 k) ∙ by_length n q.0 q.1 (let l = q.2 in omega (arith, l, b)) (λ r p. subst (λ z. z ≤ℤ pos 1) (sym (same_pairing (root_sum d.base q.0) (root_sum d.base rs) (covector d.base r) q.3)) (h r p)) k)
      (sharpen rs a)

  -- ---- the law
  all_roots_in : (rs : List Root) → ((r : Root) → In r rs → IsRoot d.base r) → AllRoots rs
  all_roots_in [] h = tt
  all_roots_in (r ∷ rs) h = (h r (here refl), all_roots_in rs (λ s p. h s (there p)))

  minuscule_pairing : (x : Vector) → IsMinuscule d x → (r : Root) → IsRoot d.base r → pairing x (covector d.base r) ≤ℤ pos 1
  minuscule_pairing x minuscule r p =
      let q = number_is d loaded r p in
      let h = minuscule q.0 q.1 in
      subst (λ t. pairing x (covector d.base t) ≤ℤ pos 1) q.2 (at_most (coroot_pairing d x q.0) h)
    where
      at_most : (z : ℤ) → unsigned_abs z ≤ 1 → z ≤ℤ pos 1
      at_most (pos n) l = omega (arith, ints, l)
      at_most (negsuc n) l = omega (arith, ints)

  pub vanishes : (rs : List Root) → ((r : Root) → Contains rs r → IsRoot d.base r) → IsMinuscule d (root_sum d.base rs) → IsZero (root_sum d.base rs)
  vanishes rs roots minuscule =
      by_length (length rs) rs (all_roots_in rs (λ r p. roots r (contains_from_in rs r p))) (omega arith) (minuscule_pairing (root_sum d.base rs) minuscule)

pub small_sums : SmallSumsVanish
small_sums d rs loaded roots minuscule = vanishes d loaded rs roots minuscule
