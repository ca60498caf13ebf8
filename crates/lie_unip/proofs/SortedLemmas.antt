-- A word that needs no replacement is one whose letters stand in the given order, one for each root.
use Rattle.std.proofs.Common.{◌≡◌, ℕ, Bool, true, false, cond, List, [], ◌∷◌, ◌++◌, Option, None, Some, eqb, refl, subst, arith}
use Rattle.std.proofs.lemmas.Bool.Decides.{nat_tests}
use Rattle.std.specs.Option.{option_map}
use Rattle.lie_ring.specs.Rings.{RingOn}
use Rattle.lie_letters.specs.RingLetters.{RingLetter, CommutatorTerm}
use Rattle.lie_unip.specs.Collection.{replacement, next_word, rewritten, Ends, at_end, by_step, IsStrictOrder}

-- the pair of neighbours is replaced
abbrev pub bad : {A : Type 0} → (ℕ → ℕ → Bool) → RingLetter A → RingLetter A → Bool
bad before x y = cond (eqb x.0 y.0) true (before y.0 x.0)

-- r comes before each letter
abbrev pub BeforeAll : {A : Type 0} → (ℕ → ℕ → Bool) → ℕ → List (RingLetter A) → Type 0
BeforeAll before r [] = Unit {0}
BeforeAll before r (x ∷ w) = (before r x.0 ≡ true) × BeforeAll before r w

-- each letter comes before each later one
abbrev pub Sorted : {A : Type 0} → (ℕ → ℕ → Bool) → List (RingLetter A) → Type 0
Sorted before [] = Unit {0}
Sorted before (x ∷ w) = BeforeAll before x.0 w × Sorted before w

module _ (before : ℕ → ℕ → Bool) (order : IsStrictOrder before) where
  not_itself : (r : ℕ) → before r r ≡ true → ⊥
  not_itself r e = let f = order.one_way r r e in cc

  -- two letters that need no replacement stand in order
  pub good_before : {A : Type 0} (x y : RingLetter A) → bad before x y ≡ false → before x.0 y.0 ≡ true
  good_before x y e = go (eqb x.0 y.0) refl e
    where
      go : (b : Bool) → eqb x.0 y.0 ≡ b → cond b true (before y.0 x.0) ≡ false → before x.0 y.0 ≡ true
      go true h e = absurd (cc)
      go false h e = order.total x.0 y.0 h e

  -- a root is not before itself
  pub before_other : (r s : ℕ) → before r s ≡ true → eqb r s ≡ false
  before_other r s e = go (eqb r s) refl
    where
      go : (b : Bool) → eqb r s ≡ b → eqb r s ≡ false
      go true h = let same : r ≡ s = grind (arith, nat_tests) in absurd (not_itself s (subst (λ q. before q s ≡ true) same e))
      go false h = h

  -- two letters in order need no replacement
  pub before_good : {A : Type 0} (x y : RingLetter A) → before x.0 y.0 ≡ true → bad before x y ≡ false
  before_good x y e = rw (before_other x.0 y.0 e) (order.one_way x.0 y.0 e)

  -- what is before the first of some letters is before all
  pub BeforeAll-trans : {A : Type 0} (r s : ℕ) (w : List (RingLetter A)) → before r s ≡ true → BeforeAll before s w → BeforeAll before r w
  BeforeAll-trans r s [] e h = tt
  BeforeAll-trans r s (x ∷ w) e h = (order.trans r s x.0 e h.0, BeforeAll-trans r s w e h.1)

  module _ {A : Type 0} (R : RingOn A) (terms : ℕ → ℕ → List CommutatorTerm) where
    next_none : (x : RingLetter A) (w : List (RingLetter A)) → next_word R terms before x w ≡ None → BeforeAll before x.0 w × Sorted before w
    next_none x [] e = (tt, tt)
    next_none x (y ∷ w) e = go (bad before x y) refl (next_word R terms before y w) refl (next_none y w) e
      where
        go : (b : Bool) → bad before x y ≡ b → (o : Option (List (RingLetter A))) → next_word R terms before y w ≡ o
            → (next_word R terms before y w ≡ None → BeforeAll before y.0 w × Sorted before w)
            → ◌≡◌ {A = Option (List (RingLetter A))} (cond b (Some (replacement R terms x y ++ w)) (option_map (λ v. x ∷ v) o)) None
            → BeforeAll before x.0 (y ∷ w) × Sorted before (y ∷ w)
        go true h o f known e = absurd (cc)
        go false h None f known e =
            let k = known f in
            let b = good_before x y h in
            ((b, BeforeAll-trans x.0 y.0 w b k.0), k)
        go false h (Some v) f known e = absurd (cc)

    -- a word without a pair to be replaced is sorted
    pub none_sorted : (w : List (RingLetter A)) → rewritten R terms before w ≡ None → Sorted before w
    none_sorted [] e = tt
    none_sorted (x ∷ w) e = next_none x w e

    next_sorted : (x : RingLetter A) (w : List (RingLetter A)) → BeforeAll before x.0 w → Sorted before w → next_word R terms before x w ≡ None
    next_sorted x [] h s = refl
    next_sorted x (y ∷ w) h s = rw (before_good x y h.0, next_sorted y w s.0 s.1) refl

    -- a sorted word has no pair to be replaced
    pub sorted_none : (w : List (RingLetter A)) → Sorted before w → rewritten R terms before w ≡ None
    sorted_none [] s = refl
    sorted_none (x ∷ w) s = next_sorted x w s.0 s.1

    -- what a word ends in is sorted
    pub ends_sorted : {w z : List (RingLetter A)} → Ends R terms before w z → Sorted before z
    ends_sorted (at_end {w = w} e) = none_sorted w e
    ends_sorted (by_step e d) = ends_sorted d

    -- the first pair after a sorted word
    next_first : (x : RingLetter A) (P : List (RingLetter A)) (y z : RingLetter A) (w : List (RingLetter A)) → Sorted before ((x ∷ P) ++ y ∷ []) → bad before y z ≡ true
        → next_word R terms before x (P ++ y ∷ z ∷ w) ≡ Some ((x ∷ P) ++ (replacement R terms y z ++ w))
    next_first x [] y z w s e = rw (before_good x y s.0.0, e) refl
    next_first x (p ∷ P) y z w s e = rw (before_good x p s.0.0, next_first p P y z w s.1 e) refl

    -- the first pair stands where a sorted front ends
    pub first_pair : (P : List (RingLetter A)) (y z : RingLetter A) (w : List (RingLetter A)) → Sorted before (P ++ y ∷ []) → bad before y z ≡ true
        → rewritten R terms before (P ++ y ∷ z ∷ w) ≡ Some (P ++ (replacement R terms y z ++ w))
    first_pair [] y z w s e = rw e refl
    first_pair (x ∷ P) y z w s e = next_first x P y z w s e
