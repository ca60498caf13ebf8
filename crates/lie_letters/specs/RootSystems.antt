-- The roots by their coefficients over the simple roots, pairings with coroots, and simple reflections; their laws, and those of signs.
-- Source: Humphreys, Introduction to Lie Algebras and Representation Theory, 9.2 to 10.2.
--
--   r = x a + y b            IsSum D r x a y b
--   n z                      times n z                a natural number of times an integer
--   x stands in xs once      Once x xs
use Rattle.std.specs.Prelude.{◌≡◌, ℕ, zero, suc, ℤ, pos, ◌+ℤ◌, ◌-ℤ◌, ◌≤ℤ◌, List, [], ◌∷◌, ◌⊎◌, Bool, true, false}
use Rattle.lie_datum.specs.Vectors.{entry}
use Rattle.lie_datum.specs.RootDatum.{root_pairing}
use Rattle.lie_datum.specs.RootList.{RootDatum}
use Rattle.lie_letters.specs.Names.{RootName, Index, root_at, simple_name, reflect_name}

-- roots, with no law of them
pub record RootSystem : Type 1 where
  pub Root : Type 0
  pub Index : Type 0
  pub simple : Index → Root
  pub reflect : Index → Root → Root
  -- the coefficient at a simple root, and the pairing of a root with the coroot of another
  pub coefficient : Root → Index → ℤ
  pub pairing : Root → Root → ℤ

-- the coefficient at a simple root
abbrev pub coefficient_at : (d : RootDatum) → RootName d → Index d → ℤ
coefficient_at d r k = entry (root_at d r).coeffs k.number

-- the pairing with the coroot of another root
abbrev pub pairing_at : (d : RootDatum) → RootName d → RootName d → ℤ
pairing_at d r s = root_pairing d.base (root_at d r) (root_at d s)

-- the root system of a datum
abbrev pub root_system : RootDatum → RootSystem
root_system d = record {
  Root = RootName d;
  Index = Index d;
  simple = simple_name d;
  reflect = reflect_name d;
  coefficient = coefficient_at d;
  pairing = pairing_at d;
}

-- a natural number of times an integer
abbrev pub times : ℕ → ℤ → ℤ
times zero z = pos 0
times (suc n) z = z +ℤ times n z

-- r = x a + y b
abbrev pub IsSum : (D : RootSystem) → D.Root → ℕ → D.Root → ℕ → D.Root → Type 0
IsSum D r x a y b = (k : D.Index) → D.coefficient r k ≡ (times x (D.coefficient a k) +ℤ times y (D.coefficient b k))

-- no coefficient is above 0
abbrev pub IsNegative : (D : RootSystem) → D.Root → Type 0
IsNegative D r = (k : D.Index) → D.coefficient r k ≤ℤ pos 0

-- coefficients determine a root, a simple reflection changes one of them by a pairing, and keeps the pairings
pub record RootLaws (D : RootSystem) : Type 0 where
  pub same_index : (i j : D.Index) → (i ≡ j) ⊎ (¬ (i ≡ j))
  pub determined : (r s : D.Root) → ((k : D.Index) → D.coefficient r k ≡ D.coefficient s k) → r ≡ s
  pub simple_here : (i : D.Index) → D.coefficient (D.simple i) i ≡ pos 1
  pub simple_other : (i k : D.Index) → ¬ (k ≡ i) → D.coefficient (D.simple i) k ≡ pos 0
  pub reflect_here : (i : D.Index) (r : D.Root) → D.coefficient (D.reflect i r) i ≡ (D.coefficient r i -ℤ D.pairing r (D.simple i))
  pub reflect_other : (i k : D.Index) (r : D.Root) → ¬ (k ≡ i) → D.coefficient (D.reflect i r) k ≡ D.coefficient r k
  pub reflect_twice : (i : D.Index) (r : D.Root) → D.reflect i (D.reflect i r) ≡ r
  pub pairing_sum : (r a b : D.Root) (x y : ℕ) → IsSum D r x a y b → (s : D.Root) → D.pairing r s ≡ (times x (D.pairing a s) +ℤ times y (D.pairing b s))
  pub pairing_reflect : (i : D.Index) (r s : D.Root) → D.pairing (D.reflect i r) (D.reflect i s) ≡ D.pairing r s
  pub pairing_self : (i : D.Index) → D.pairing (D.simple i) (D.simple i) ≡ pos 2

-- x stands nowhere in the list
abbrev pub Never : {A : Type 0} → A → List A → Type 0
Never x [] = Unit {0}
Never x (y ∷ ys) = ¬ (y ≡ x) × Never x ys

-- x stands in the list in one place
pub data Once {A : Type 0} (x : A) : List A → Type 0 where
  here : {xs : List A} → Never x xs → Once x (x ∷ xs)
  there : {y : A} {xs : List A} → ¬ (y ≡ x) → Once x xs → Once x (y ∷ xs)

-- each root of the list is positive
abbrev pub AllPositive : (D : RootSystem) → (D.Root → Bool) → List D.Root → Type 0
AllPositive D is_negative [] = Unit {0}
AllPositive D is_negative (r ∷ rs) = (is_negative r ≡ false) × AllPositive D is_negative rs

-- which roots are negative, how opposites and simple reflections change that, and the list of the positive roots
pub record PositiveLaws (D : RootSystem) (opposite : D.Root → D.Root) (is_negative : D.Root → Bool) (positives : List D.Root) : Type 0 where
  pub negative_true : (r : D.Root) → IsNegative D r → is_negative r ≡ true
  pub negative_is : (r : D.Root) → is_negative r ≡ true → IsNegative D r
  pub positive_opposite : (r : D.Root) → is_negative r ≡ false → is_negative (opposite r) ≡ true
  pub same_root : (r s : D.Root) → (r ≡ s) ⊎ (¬ (r ≡ s))
  pub negative_opposite : (r : D.Root) → is_negative r ≡ true → is_negative (opposite r) ≡ false
  pub simple_positive : (i : D.Index) → is_negative (D.simple i) ≡ false
  pub simple_opposite_negative : (i : D.Index) → is_negative (opposite (D.simple i)) ≡ true
  pub opposite_twice : (r : D.Root) → opposite (opposite r) ≡ r
  pub reflect_simple : (i : D.Index) → D.reflect i (D.simple i) ≡ opposite (D.simple i)
  pub reflect_opposite : (i : D.Index) (r : D.Root) → D.reflect i (opposite r) ≡ opposite (D.reflect i r)
  pub sign_kept : (i : D.Index) (r : D.Root) → ¬ (r ≡ D.simple i) → ¬ (r ≡ opposite (D.simple i)) → is_negative (D.reflect i r) ≡ is_negative r
  pub listed : (r : D.Root) → is_negative r ≡ false → Once r positives
  pub positive : AllPositive D is_negative positives
