-- A torus vector is determined by the values of the weights, where the roots' values are, and each axis is covered by lowering or by a line.
use Rattle.std.proofs.Common.{◌≡◌, ℕ, zero, suc, ◌<◌, ◌≤◌, List, [], ◌∷◌, length, refl, sym, ap, ap₂, ◌∙◌, subst, arith, ⊎_elim}
use Rattle.std.specs.Prelude.{ℤ, pos, negsuc, neg_ℤ, ◌+ℤ◌, ◌*ℤ◌, slice_index_or}
use Rattle.std.proofs.lemmas.Int.{ints}
use Rattle.std.proofs.lemmas.List.{ext_get_or}
use Rattle.lie_ring.specs.RingLemmas.{add_mul}
use Rattle.lie_ring.specs.Integers.{integers}
use Rattle.lie_ring.specs.IntegerLaws.{integers_ring}
use Rattle.lie_field.specs.FiniteField.{FiniteField}
use Rattle.lie_field.specs.Quotient.{mul}
use Rattle.lie_field.specs.Elements.{Elem, NonZero, same_nonzero, unit_one, unit_mul, unit_inv, unit_power, unit_power_int, unit_assoc, unit_comm, unit_mul_one, unit_mul_inv, unit_mul-element, elem_mul-number}
use Rattle.lie_datum.specs.Vectors.{Vector, plus, times, minus, combination, unit, entry}
use Rattle.lie_datum.specs.declared.root_pair.Root.{Root}
use Rattle.lie_datum.specs.RootDatum.{Base, vector, opposite}
use Rattle.lie_datum.specs.RootList.{RootDatum, root_of, IsNumber}
use Rattle.lie_orbit.specs.Laws.{IsZero}
use Rattle.lie_orbit.specs.Lowering.{Lowers, less_root, low, step}
use Rattle.lie_const.specs.Modules.{Module, dimension}
use Rattle.lie_letters.specs.Entries.{character}
use Rattle.lie_letters.specs.Characters.{monomial}
use Rattle.lie_letters.specs.Spelled.{numbers}
use Rattle.lie_letters.proofs.TorusLemmas.{AreUnits-numbers}
use Rattle.lie_letters.proofs.CharacterLemmas.{monomial-number}
use Rattle.lie_audit.proofs.CharacterValues.{character-plus}
use Rattle.lie_identities.specs.CoverLines.{CoverLines, AreCoverLines}
use Rattle.lie_identities.specs.Covers.{IsCovered, IsAxisCovered}

-- (k + l) x = k x + l x
times-split : (k l : ℤ) (x : Vector) → times (k +ℤ l) x ≡ plus (times k x) (times l x)
times-split k l [] = refl
times-split k l (a ∷ x) = ap₂ ◌∷◌ (add_mul integers integers_ring.laws k l a refl refl refl) (times-split k l x)

-- 1 x = x
times-one : (x : Vector) → times (pos 1) x ≡ x
times-one [] = refl
times-one (a ∷ x) = ap₂ ◌∷◌ (let one : pos 1 *ℤ a ≡ a = omega (arith, ints) in one) (times-one x)

-- (k l) x = k (l x)
times-times : (k l : ℤ) (x : Vector) → times (k *ℤ l) x ≡ times k (times l x)
times-times k l [] = refl
times-times k l (a ∷ x) = ap₂ ◌∷◌ (integers_ring.laws.mul_assoc k l a refl refl refl) (times-times k l x)

-- k (x + y) = k x + k y
times-plus : (k : ℤ) (x y : Vector) → times k (plus x y) ≡ plus (times k x) (times k y)
times-plus k [] y = refl
times-plus k (a ∷ x) [] = refl
times-plus k (a ∷ x) (b ∷ y) = ap₂ ◌∷◌ (integers_ring.laws.mul_add k a b refl refl refl) (times-plus k x y)

-- a combination of multiples of coefficients
combination-times : (k : ℤ) (c : Vector) (vs : List Vector) → combination (times k c) vs ≡ times k (combination c vs)
combination-times k [] vs = refl
combination-times k (a ∷ c) [] = refl
combination-times k (a ∷ c) (v ∷ vs) = ap₂ plus (times-times k a v) (combination-times k c vs) ∙ sym (times-plus k (times a v) (combination c vs))

module _ (f : FiniteField) where
  one_times : (a : NonZero f) → unit_mul f (unit_one f) a ≡ a
  one_times a = unit_comm f (unit_one f) a ∙ unit_mul_one f a

  -- the value of a sum
  monomial-plus : (t : List (NonZero f)) (v w : Vector) → monomial f t (plus v w) ≡ unit_mul f (monomial f t v) (monomial f t w)
  monomial-plus t v w =
      let A = monomial f t v in
      let B = monomial f t w in
      same_nonzero f (monomial f t (plus v w)) (unit_mul f A B) (
      monomial-number f t (plus v w)
      ∙ character-plus f (numbers f t) v w (AreUnits-numbers f t)
      ∙ sym (ap (λ (x : Elem f). x.number) (unit_mul-element f A B) ∙ elem_mul-number f A.element B.element ∙ ap₂ (mul f.given) (monomial-number f t v) (monomial-number f t w)))

  power_none : (a : NonZero f) → unit_power_int f a (pos 0) ≡ unit_one f
  unfolding unit_power_int unit_power
  power_none a = refl

  power_single : (a : NonZero f) → unit_power_int f a (pos 1) ≡ a
  unfolding unit_power_int unit_power
  power_single a = one_times a

  -- the value of 0 x
  monomial-none : (t : List (NonZero f)) (v : Vector) → monomial f t (times (pos 0) v) ≡ unit_one f
  unfolding monomial
  monomial-none [] v = refl
  monomial-none (t ∷ ts) [] = refl
  monomial-none (t ∷ ts) (a ∷ v) =
      let none : pos 0 *ℤ a ≡ pos 0 = omega (arith, ints) in
      ap₂ (unit_mul f) (ap (unit_power_int f t) none ∙ power_none t) (monomial-none ts v) ∙ unit_mul_one f (unit_one f)

  -- the value of zeros
  monomial-zeros : (t : List (NonZero f)) (n : ℕ) → monomial f t (unit n zero) ≡ unit_one f
  unfolding monomial
  monomial-zeros [] n = refl
  monomial-zeros (t ∷ ts) zero = refl
  monomial-zeros (t ∷ ts) (suc n) = ap₂ (unit_mul f) (power_none t) (monomial-zeros ts n) ∙ unit_mul_one f (unit_one f)

  -- the value of a vector with zeros in the places of the torus vector
  monomial-zeros-there : (t : List (NonZero f)) (y : Vector) → ((i : ℕ) → i < length t → entry y i ≡ pos 0) → monomial f t y ≡ unit_one f
  unfolding monomial
  monomial-zeros-there [] y h = refl
  monomial-zeros-there (t ∷ ts) [] h = refl
  monomial-zeros-there (t ∷ ts) (c ∷ y) h =
      ap₂ (unit_mul f) (ap (unit_power_int f t) (h 0 (omega arith)) ∙ power_none t) (monomial-zeros-there ts y (λ k l. h (suc k) (omega (arith, l)))) ∙ unit_mul_one f (unit_one f)

  -- the value of a vector of zeros, of any length
  monomial-zero : (t : List (NonZero f)) (y : Vector) → IsZero y → monomial f t y ≡ unit_one f
  monomial-zero t y h = monomial-zeros-there t y (λ i l. h i)

  -- the value of a unit vector is the entry
  monomial-unit : (t : List (NonZero f)) (n i : ℕ) (z : NonZero f) → i < length t → i < n → monomial f t (unit n (suc i)) ≡ slice_index_or t i z
  unfolding monomial
  monomial-unit [] n i z p q = absurd (let never : ⊥ = omega (arith, p) in never)
  monomial-unit (t ∷ ts) zero i z p q = absurd (let never : ⊥ = omega (arith, q) in never)
  monomial-unit (t ∷ ts) (suc n) zero z p q = ap₂ (unit_mul f) (power_single t) (monomial-zeros ts n) ∙ unit_mul_one f t
  monomial-unit (t ∷ ts) (suc n) (suc i) z p q = ap₂ (unit_mul f) (power_none t) (monomial-unit ts n i z (omega (arith, p)) (omega (arith, q))) ∙ one_times (slice_index_or ts i z)

  -- the value rests on as many entries as there are of the torus vector
  pub monomial-entries : (t : List (NonZero f)) (x y : Vector) → ((i : ℕ) → i < length t → entry x i ≡ entry y i) → monomial f t x ≡ monomial f t y
  unfolding monomial
  monomial-entries [] x y same = refl
  monomial-entries (t ∷ ts) [] [] same = refl
  monomial-entries (t ∷ ts) [] (b ∷ y) same = sym (monomial-zeros-there (t ∷ ts) (b ∷ y) (λ i l. sym (same i l)))
  monomial-entries (t ∷ ts) (a ∷ x) [] same = monomial-zeros-there (t ∷ ts) (a ∷ x) same
  monomial-entries (t ∷ ts) (a ∷ x) (b ∷ y) same =
      ap₂ (unit_mul f) (ap (unit_power_int f t) (same 0 (omega arith))) (monomial-entries ts x y (λ i l. same (suc i) (omega (arith, l))))

  -- products cancel
  cancel_right : (a b c : NonZero f) → unit_mul f a c ≡ unit_mul f b c → a ≡ b
  cancel_right a b c e =
      let drop = λ (x : NonZero f). unit_assoc f x c (unit_inv f c) ∙ ap (unit_mul f x) (unit_mul_inv f c) ∙ unit_mul_one f x in
      sym (drop a) ∙ ap (λ x. unit_mul f x (unit_inv f c)) e ∙ drop b

  module _ (h k : List (NonZero f)) where
    -- the two vectors have one value at x
    pub Agrees : Vector → Type 0
    Agrees x = monomial f h x ≡ monomial f k x

    agrees-plus : (x y : Vector) → Agrees x → Agrees y → Agrees (plus x y)
    unfolding Agrees
    agrees-plus x y p q = monomial-plus h x y ∙ ap₂ (unit_mul f) p q ∙ sym (monomial-plus k x y)

    agrees-first : (x y : Vector) → Agrees (plus x y) → Agrees y → Agrees x
    unfolding Agrees
    agrees-first x y p q =
        cancel_right (monomial f h x) (monomial f k x) (monomial f h y)
        (sym (monomial-plus h x y) ∙ p ∙ monomial-plus k x y ∙ ap (unit_mul f (monomial f k x)) (sym q))

    agrees-second : (x y : Vector) → Agrees (plus x y) → Agrees x → Agrees y
    unfolding Agrees
    agrees-second x y p q =
        cancel_right (monomial f h y) (monomial f k y) (monomial f h x)
        (unit_comm f (monomial f h y) (monomial f h x) ∙ sym (monomial-plus h x y) ∙ p ∙ monomial-plus k x y ∙ unit_comm f (monomial f k x) (monomial f k y) ∙ ap (unit_mul f (monomial f k y)) (sym q))

    agrees-none : (x : Vector) → Agrees (times (pos 0) x)
    unfolding Agrees
    agrees-none x = monomial-none h x ∙ sym (monomial-none k x)

    agrees-empty : Agrees []
    unfolding Agrees
    agrees-empty = monomial-zero h [] (λ i. refl) ∙ sym (monomial-zero k [] (λ i. refl))

    -- at multiples
    agrees-natural : (n : ℕ) (x : Vector) → Agrees x → Agrees (times (pos n) x)
    agrees-natural zero x p = agrees-none x
    agrees-natural (suc n) x p =
        let next : pos n +ℤ pos 1 ≡ pos (suc n) = omega (arith, ints) in
        subst Agrees (sym (times-split (pos n) (pos 1) x) ∙ ap (λ m. times m x) next)
        (agrees-plus (times (pos n) x) (times (pos 1) x) (agrees-natural n x p) (subst Agrees (sym (times-one x)) p))

    pub agrees-times : (m : ℤ) (x : Vector) → Agrees x → Agrees (times m x)
    agrees-times (pos n) x p = agrees-natural n x p
    agrees-times (negsuc n) x p =
        let none : negsuc n +ℤ pos (suc n) ≡ pos 0 = omega (arith, ints) in
        agrees-first (times (negsuc n) x) (times (pos (suc n)) x)
        (subst Agrees (ap (λ m. times m x) (sym none) ∙ times-split (negsuc n) (pos (suc n)) x) (agrees-none x))
        (agrees-natural (suc n) x p)

    -- from a multiple by -1 back
    agrees-back : (x : Vector) → Agrees (times (negsuc 0) x) → Agrees x
    agrees-back x p =
        let none : negsuc 0 +ℤ pos 1 ≡ pos 0 = omega (arith, ints) in
        subst Agrees (times-one x) (agrees-second (times (negsuc 0) x) (times (pos 1) x)
        (subst Agrees (ap (λ m. times m x) (sym none) ∙ times-split (negsuc 0) (pos 1) x) (agrees-none x)) p)

    -- from equal numbers
    pub agrees-numbers : (x : Vector) → character f (numbers f h) x ≡ character f (numbers f k) x → Agrees x
    unfolding Agrees
    agrees-numbers x e = same_nonzero f (monomial f h x) (monomial f k x) (monomial-number f h x ∙ e ∙ sym (monomial-number f k x))

    -- at vectors with the same entries
    agrees-entries : (x y : Vector) → length h ≤ 8 → length k ≤ 8 → ((i : ℕ) → i < 8 → entry x i ≡ entry y i) → Agrees x → Agrees y
    unfolding Agrees
    agrees-entries x y h_few k_few same p =
        sym (monomial-entries h x y (λ i l. same i (omega (arith, l, h_few)))) ∙ p ∙ monomial-entries k x y (λ i l. same i (omega (arith, l, k_few)))

    -- at a combination of vectors
    agrees-combination : (c : Vector) (vs : List Vector) → ((a : ℕ) → a < length vs → Agrees (slice_index_or vs a [])) → Agrees (combination c vs)
    agrees-combination [] vs at = agrees-empty
    agrees-combination (a ∷ c) [] at = agrees-empty
    agrees-combination (a ∷ c) (v ∷ vs) at =
        agrees-plus (times a v) (combination c vs) (agrees-times a v (at 0 (omega arith))) (agrees-combination c vs (λ i l. at (suc i) (omega (arith, l))))

    -- at a difference
    pub agrees-difference : (x y z : Vector) → x ≡ plus y (times (pos 1) z) → Agrees x → Agrees y → Agrees z
    agrees-difference x y z e p q = subst Agrees (times-one z) (agrees-second y (times (pos 1) z) (subst Agrees e p) q)

    -- at the opposite root
    pub agrees-opposite : (b : Base) (r : Root) → Agrees (vector b r) → Agrees (vector b (opposite r))
    agrees-opposite b r p = subst Agrees (sym (combination-times (neg_ℤ (pos 1)) r.coeffs b.roots)) (agrees-times (neg_ℤ (pos 1)) (vector b r) p)

    -- two torus vectors that agree on the axes are equal
    pub torus_same : length h ≡ length k → length h ≤ 8 → ((i : ℕ) → i < length h → Agrees (unit 8 (suc i))) → h ≡ k
    unfolding Agrees
    torus_same long few agree = ext_get_or (unit_one f) h k long (λ i p.
        sym (monomial-unit h 8 i (unit_one f) p (omega (arith, p, few)))
        ∙ agree i p
        ∙ monomial-unit k 8 i (unit_one f) (omega (arith, p, long)) (omega (arith, p, few)))

    module _ (d : RootDatum) (at_roots : (r : ℤ) → IsNumber d r → Agrees (vector d.base (root_of d r))) where
      -- at what lowers to an agreement
      agrees-lowered : (x y : Vector) → Lowers d x y → Agrees y → Agrees x
      agrees-lowered x y (low z h) p = p
      agrees-lowered x y (step z u r c first half rest) p =
          agrees-first z (times (neg_ℤ c) (vector d.base (root_of d r))) (agrees-lowered (less_root d z c r) u rest p)
          (agrees-times (neg_ℤ c) (vector d.base (root_of d r)) (at_roots r first.number))

      -- at an axis that a weight covers
      agrees-covered : (v : Module) → ((a : ℕ) → a < dimension v → Agrees (slice_index_or v.weights a [])) → (j : ℕ) → IsCovered d v j → Agrees (unit 8 j)
      unfolding Agrees
      agrees-covered v at_weights j axis =
          let w = slice_index_or v.weights axis.place [] in
          let x = times (pos axis.times) w in
          agrees-back (unit 8 j)
          (agrees-second x (minus (unit 8 j))
          (agrees-lowered (plus x (minus (unit 8 j))) axis.lowered axis.lowers (monomial-zero h axis.lowered axis.zero ∙ sym (monomial-zero k axis.lowered axis.zero)))
          (agrees-times (pos axis.times) w (at_weights axis.place axis.within)))

      -- at an axis that is covered
      pub agrees-axis : (v : Module) → ((a : ℕ) → a < dimension v → Agrees (slice_index_or v.weights a [])) → length h ≤ 8 → length k ≤ 8
          → (lines : CoverLines) → AreCoverLines d v lines → (j : ℕ) → 1 ≤ j → j ≤ d.base.dim → IsAxisCovered d v lines j → Agrees (unit 8 j)
      agrees-axis v at_weights h_few k_few lines cover j first last axis = ⊎_elim (agrees-covered v at_weights j)
          (λ line. (let c = line.0 in
          let is = cover.each j c first last line.1 in
          agrees-entries (combination c v.weights) (unit 8 j) h_few k_few is.sum (agrees-combination c v.weights at_weights)))
          axis
