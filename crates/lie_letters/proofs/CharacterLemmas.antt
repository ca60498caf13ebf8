-- Roots at torus vectors and coroots at units: their laws, and the numbers of their entries.
use Rattle.std.proofs.Common.{◌≡◌, ℕ, zero, suc, ◌≤◌, ◌<◌, List, [], ◌∷◌, map, length, get_or, drop, replicate, refl, sym, ap, ap₂, ◌∙◌, subst, arith}
use Rattle.std.proofs.lemmas.Int.{ints}
use Rattle.std.proofs.Math.Facts.{eqb_yes}
use Rattle.std.proofs.Math.Seq.{drop-cons}
use Rattle.std.specs.Prelude.{ℤ, pos, neg_ℤ, ◌*ℤ◌}
use Rattle.lie_base.proofs.Whole.{mul_assoc, mul-add}
use Rattle.lie_field.specs.FiniteField.{FiniteField}
use Rattle.lie_field.specs.Quotient.{order, mul, power_int}
use Rattle.lie_field.specs.Elements.{Elem, NonZero, zero_elem, one_elem, elem_mul, elem_inv, unit_one, unit_mul, unit_inv, unit_power_int, as_nonzero, as_nonzero-element, power_one, power_mul, power_neg, power-number, unit_middle, unit_mul_one, unit_inv_mul, unit_inv_one, unit_not_zero, unit_mul-element, unit_inv-element, unit_one-element, same_element, one_not_zero}
use Rattle.lie_datum.specs.Vectors.{Vector, plus, times, minus, combination}
use Rattle.lie_datum.specs.RootDatum.{vector, simple_coroot}
use Rattle.lie_datum.specs.RootList.{IsLoaded}
use Rattle.lie_letters.specs.Torus.{Torus, each_mul, torus_one, torus_mul}
use Rattle.lie_letters.specs.Names.{RootName, Index, root_at, opposite_name}
use Rattle.lie_letters.specs.Characters.{monomial, powers}
use Rattle.lie_letters.specs.Frames.{FrameData, dim, character_at, coroot_at}
use Rattle.lie_field.specs.Algebra.FieldTest.{is_lawful}
use Rattle.lie_field.specs.Algebra.Laws
use Rattle.lie_letters.specs.Entries.{IsUnit, AreUnits, character, cocharacter}
use Rattle.lie_letters.specs.Spelled.{numbers}
use Rattle.lie_letters.proofs.TorusLaws.{same_torus}
use Rattle.lie_letters.proofs.NameLemmas.{opposite_at}
use Rattle.lie_letters.proofs.TorusLemmas.{unit_of, units_of, IsUnit-number}

-- a multiple of a sum
pub times-plus : (k : ℤ) (x y : Vector) → times k (plus x y) ≡ plus (times k x) (times k y)
times-plus k [] y = refl
times-plus k (a ∷ x) [] = refl
times-plus k (a ∷ x) (b ∷ y) = ap₂ ◌∷◌ (mul-add k a b) (times-plus k x y)

-- a multiple of a multiple
pub times-times : (j k : ℤ) (x : Vector) → times j (times k x) ≡ times (j *ℤ k) x
times-times j k [] = refl
times-times j k (a ∷ x) = ap₂ ◌∷◌ (sym (mul_assoc j k a)) (times-times j k x)

-- a multiple of a combination
pub combination-times : (k : ℤ) (c : Vector) (vs : List Vector) → combination (times k c) vs ≡ times k (combination c vs)
combination-times k [] vs = refl
combination-times k (a ∷ c) [] = refl
combination-times k (a ∷ c) (v ∷ vs) =
    ap₂ plus (sym (times-times k a v)) (combination-times k c vs) ∙ sym (times-plus k (times a v) (combination c vs))

module _ (f : FiniteField) where
  -- the value at -v is the inverse of that at v
  monomial-minus : (t : List (NonZero f)) (v : Vector) → monomial f t (minus v) ≡ unit_inv f (monomial f t v)
  unfolding monomial
  monomial-minus [] v = sym (unit_inv_one f)
  monomial-minus (t ∷ ts) [] = sym (unit_inv_one f)
  monomial-minus (t ∷ ts) (c ∷ v) =
      let turned : neg_ℤ (pos 1) *ℤ c ≡ neg_ℤ c = omega (arith, ints) in
      ap₂ (unit_mul f) (ap (unit_power_int f t) turned ∙ power_neg f t c) (monomial-minus ts v)
      ∙ sym (unit_inv_mul f (unit_power_int f t c) (monomial f ts v))

  -- the value at a product is the product of the values
  pub monomial-mul : (t u : List (NonZero f)) (v : Vector) → length t ≡ length u → monomial f (each_mul f t u) v ≡ unit_mul f (monomial f t v) (monomial f u v)
  unfolding monomial
  monomial-mul [] [] v e = sym (unit_mul_one f (unit_one f))
  monomial-mul [] (b ∷ u) v e = cc
  monomial-mul (a ∷ t) [] v e = cc
  monomial-mul (a ∷ t) (b ∷ u) [] e = sym (unit_mul_one f (unit_one f))
  monomial-mul (a ∷ t) (b ∷ u) (c ∷ v) e =
      ap₂ (unit_mul f) (power_mul f a b c) (monomial-mul t u v (let h : length t ≡ length u = cc in h))
      ∙ unit_middle f (unit_power_int f a c) (unit_power_int f b c) (monomial f t v) (monomial f u v)

  -- the value at ones is 1
  monomial-ones : (n : ℕ) (v : Vector) → monomial f (replicate n (unit_one f)) v ≡ unit_one f
  unfolding monomial
  monomial-ones zero v = refl
  monomial-ones (suc n) [] = refl
  monomial-ones (suc n) (c ∷ v) = ap₂ (unit_mul f) (power_one f c) (monomial-ones n v) ∙ unit_mul_one f (unit_one f)

  powers-mul : (a b : NonZero f) (n : ℕ) (y : Vector) → powers f (unit_mul f a b) n y ≡ each_mul f (powers f a n y) (powers f b n y)
  unfolding powers
  powers-mul a b zero y = refl
  powers-mul a b (suc n) [] = ap₂ ◌∷◌ (sym (unit_mul_one f (unit_one f))) (powers-mul a b n [])
  powers-mul a b (suc n) (c ∷ y) = ap₂ ◌∷◌ (power_mul f a b c) (powers-mul a b n y)

  powers-one : (n : ℕ) (y : Vector) → powers f (unit_one f) n y ≡ replicate n (unit_one f)
  unfolding powers
  powers-one zero y = refl
  powers-one (suc n) [] = ap (λ w. unit_one f ∷ w) (powers-one n [])
  powers-one (suc n) (c ∷ y) = ap₂ ◌∷◌ (power_one f c) (powers-one n y)

  as_nonzero-mul : (a b : Elem f) → ¬ (a ≡ zero_elem f) → ¬ (b ≡ zero_elem f) → as_nonzero f (elem_mul f a b) ≡ unit_mul f (as_nonzero f a) (as_nonzero f b)
  as_nonzero-mul a b p q =
      let x = as_nonzero f a in
      let y = as_nonzero f b in
      let is : (unit_mul f x y).element ≡ elem_mul f a b =
      unit_mul-element f x y ∙ ap₂ (elem_mul f) (as_nonzero-element f a p) (as_nonzero-element f b q) in
      let apart : ¬ (elem_mul f a b ≡ zero_elem f) = λ e. unit_not_zero f (unit_mul f x y) (is ∙ e) in
      same_element f (as_nonzero-element f (elem_mul f a b) apart ∙ sym is)

  as_nonzero-one : as_nonzero f (one_elem f) ≡ unit_one f
  as_nonzero-one = same_element f (as_nonzero-element f (one_elem f) (one_not_zero f) ∙ sym (unit_one-element f))

  -- ---- numbers
  -- the number of a monomial is the value by numbers
  pub monomial-number : (t : List (NonZero f)) (v : Vector) → (monomial f t v).element.number ≡ character f (numbers f t) v
  unfolding monomial unit_one unit_mul
  monomial-number [] v = refl
  monomial-number (t ∷ ts) [] = refl
  monomial-number (t ∷ ts) (c ∷ v) = ap₂ (mul f.given) (power-number f t c) (monomial-number ts v)

  -- and of the powers
  pub powers-numbers : (a : NonZero f) (n : ℕ) (y : Vector) → n ≤ length y → numbers f (powers f a n y) ≡ cocharacter f n y a.element.number
  unfolding powers
  powers-numbers a zero y l = refl
  powers-numbers a (suc n) [] l = absurd (omega (arith, l))
  powers-numbers a (suc n) (c ∷ y) l = ap₂ ◌∷◌ (power-number f a c) (powers-numbers a n y (omega (arith, l)))

  -- the value at units is a unit
  pub IsUnit-character : (t : List ℕ) (v : Vector) → AreUnits f t → IsUnit f (character f t v)
  IsUnit-character t v h =
      let x = units_of f t h in
      subst (IsUnit f) (monomial-number x.0 v ∙ ap (λ s. character f s v) x.1) (IsUnit-number f (monomial f x.0 v))

  -- powers of a unit are units
  pub AreUnits-powers : (a : ℕ) (y : Vector) → IsUnit f a → AreUnits f (map (λ c. power_int f.given a c) y)
  AreUnits-powers a [] h = tt
  AreUnits-powers a (c ∷ y) h =
      let x = unit_of f a h in
      (subst (IsUnit f) (power-number f x c) (IsUnit-number f (unit_power_int f x c)), AreUnits-powers a y h)

  -- there are as many as exponents
  pub length-cocharacter : (n : ℕ) (y : Vector) (a : ℕ) → n ≤ length y → length (cocharacter f n y a) ≡ n
  length-cocharacter zero y a l = refl
  length-cocharacter (suc n) [] a l = absurd (omega (arith, l))
  length-cocharacter (suc n) (c ∷ y) a l = ap suc (length-cocharacter n y a (omega (arith, l)))

  -- a product of powers, one factor further
  pub character_step : (value : ℕ) (t : List ℕ) (v : Vector) (j : ℕ) → j < length t → j < length v
      → mul f.given (mul f.given value (power_int f.given (get_or t j 0) (get_or v j (pos 0)))) (character f (drop (suc j) t) (drop (suc j) v))
      ≡ mul f.given value (character f (drop j t) (drop j v))
  character_step value t v j l m =
      let p = power_int f.given (get_or t j 0) (get_or v j (pos 0)) in
      Laws.mul_assoc f.given (is_lawful f).ring value p (character f (drop (suc j) t) (drop (suc j) v))
      ∙ ap (mul f.given value) (sym (ap₂ (character f) (drop-cons t j 0 l) (drop-cons v j (pos 0) m)))

  -- one times a value below q
  pub one_times : (a : ℕ) → a < order f.given → mul f.given 1 a ≡ a
  one_times a h = Laws.mul_comm f.given (is_lawful f).ring 1 a ∙ Laws.mul_one f.given (is_lawful f).ring a h

  -- a value below q times one
  pub times_one : (a : ℕ) → a < order f.given → mul f.given a 1 ≡ a
  times_one a h = Laws.mul_one f.given (is_lawful f).ring a h

  -- past the last entry nothing is left to multiply
  pub character_end : (t : List ℕ) (v : Vector) (j : ℕ) → length t ≤ j → character f (drop j t) (drop j v) ≡ 1
  character_end [] v zero l = refl
  character_end [] v (suc j) l = refl
  character_end (a ∷ t) v zero l = absurd (omega (arith, l))
  character_end (a ∷ t) [] (suc j) l = ends (drop j t)
    where
      ends : (t : List ℕ) → character f t [] ≡ 1
      ends [] = refl
      ends (a ∷ t) = refl
  character_end (a ∷ t) (c ∷ v) (suc j) l = character_end t v j (omega (arith, l))

module _ (f : FrameData) where
  -- a simple coroot at a product is the product
  pub coroot_mul : (i : Index f.datum) (a b : Elem f.field) → ¬ (a ≡ zero_elem f.field) → ¬ (b ≡ zero_elem f.field)
      → coroot_at f i (elem_mul f.field a b) ≡ torus_mul f.field (dim f) (coroot_at f i a) (coroot_at f i b)
  unfolding coroot_at torus_mul
  coroot_mul i a b p q =
      let y = simple_coroot f.datum.base (suc i.number) in
      same_torus f.field (dim f) _ _
      (ap (λ c. powers f.field c (dim f) y) (as_nonzero-mul f.field a b p q) ∙ powers-mul f.field (as_nonzero f.field a) (as_nonzero f.field b) (dim f) y)

  -- and at one it is the vector of ones
  pub coroot_one : (i : Index f.datum) → coroot_at f i (one_elem f.field) ≡ torus_one f.field (dim f)
  unfolding coroot_at torus_one
  coroot_one i =
      let y = simple_coroot f.datum.base (suc i.number) in
      same_torus f.field (dim f) _ _ (ap (λ c. powers f.field c (dim f) y) (as_nonzero-one f.field) ∙ powers-one f.field (dim f) y)

  -- the value at a product is the product of the values, and at ones it is 1
  pub character_mul : (r : RootName f.datum) (t u : Torus f.field (dim f))
      → character_at f r (torus_mul f.field (dim f) t u) ≡ elem_mul f.field (character_at f r t) (character_at f r u)
  unfolding character_at torus_mul
  character_mul r t u =
      let v = vector f.datum.base (root_at f.datum r) in
      ap (λ a. a.element) (monomial-mul f.field t.entries u.entries v (eqb_yes t.long ∙ sym (eqb_yes u.long)))
      ∙ unit_mul-element f.field (monomial f.field t.entries v) (monomial f.field u.entries v)

  -- and at ones it is one
  pub character_one : (r : RootName f.datum) → character_at f r (torus_one f.field (dim f)) ≡ one_elem f.field
  unfolding character_at torus_one
  character_one r =
      ap (λ a. a.element) (monomial-ones f.field (dim f) (vector f.datum.base (root_at f.datum r))) ∙ unit_one-element f.field

  -- it is not 0
  pub character_nonzero : (r : RootName f.datum) (t : Torus f.field (dim f)) → ¬ (character_at f r t ≡ zero_elem f.field)
  unfolding character_at
  character_nonzero r t = unit_not_zero f.field (monomial f.field t.entries (vector f.datum.base (root_at f.datum r)))

  -- opposite roots have inverse values
  pub character_opposite : IsLoaded f.datum → (r : RootName f.datum) (t : Torus f.field (dim f))
      → character_at f (opposite_name f.datum r) t ≡ elem_inv f.field (character_at f r t)
  unfolding character_at
  character_opposite loaded r t =
      let b = f.datum.base in
      let v = vector b (root_at f.datum r) in
      ap (λ s. (monomial f.field t.entries (vector b s)).element) (opposite_at f.datum loaded r)
      ∙ ap (λ w. (monomial f.field t.entries w).element) (combination-times (neg_ℤ (pos 1)) (root_at f.datum r).coeffs b.roots)
      ∙ ap (λ u. u.element) (monomial-minus f.field t.entries v)
      ∙ unit_inv-element f.field (monomial f.field t.entries v)

  -- the number of a root at a torus vector
  pub character_at-number : (r : RootName f.datum) (t : Torus f.field (dim f))
      → (character_at f r t).number ≡ character f.field (numbers f.field t.entries) (vector f.datum.base (root_at f.datum r))
  unfolding character_at
  character_at-number r t = monomial-number f.field t.entries (vector f.datum.base (root_at f.datum r))
