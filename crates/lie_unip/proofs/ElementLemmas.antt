-- The letters of a collected word have elements where those of the word have.
use Rattle.std.proofs.Common.{ℕ, Bool, true, false, cond, List, [], ◌∷◌, ◌++◌, Option, None, Some, eqb, zero, suc}
use Rattle.std.specs.Option.{option_map}
use Rattle.std.specs.Prelude.{nat_lt}
use Rattle.lie_ring.specs.Rings.{RingOn, IsElem, IsRing}
use Rattle.lie_letters.specs.RingLetters.{OfElements, RingLetter, CommutatorTerm, power, term_word, inverse_word}
use Rattle.lie_unip.specs.Collection.{replacement, next_word, rewritten}

-- a word, if there is one, has elements
abbrev pub SomeOf : {A : Type 0} → RingOn A → Option (List (RingLetter A)) → Type 0
SomeOf R None = Unit {0}
SomeOf R (Some w) = OfElements R w

module _ {A : Type 0} (R : RingOn A) where
  -- two words of elements, joined
  pub OfElements-append : (v w : List (RingLetter A)) → OfElements R v → OfElements R w → OfElements R (v ++ w)
  OfElements-append [] w p q = q
  OfElements-append (x ∷ v) w p q = (p.0, OfElements-append v w p.1 q)

  put_first-elem : (x : RingLetter A) → IsElem R x.1 → (o : Option (List (RingLetter A))) → SomeOf R o → SomeOf R (option_map (λ v. x ∷ v) o)
  put_first-elem x p None q = tt
  put_first-elem x p (Some w) q = (p, q)

  module _ (ring : IsRing R) where
    -- a power of an element is one
    pub power-elem : (a : A) (n : ℕ) → IsElem R a → IsElem R (power R a n)
    power-elem a zero p = ring.laws.one_elem
    power-elem a (suc n) p = ring.laws.mul_elem (power R a n) a (power-elem a n p) p

    -- the letters of terms have elements
    pub term_word-elem : (cs : List CommutatorTerm) (t u : A) → IsElem R t → IsElem R u → OfElements R (term_word R cs t u)
    term_word-elem [] t u p q = tt
    term_word-elem (c ∷ cs) t u p q = (
      ring.laws.mul_elem (R.of_int c.value) (R.mul (power R (R.neg t) c.i) (power R u c.j)) (ring.integers.int_elem c.value)
          (ring.laws.mul_elem (power R (R.neg t) c.i) (power R u c.j) (power-elem (R.neg t) c.i (ring.laws.neg_elem t p)) (power-elem u c.j q)),
      term_word-elem cs t u p q,
    )

    -- inverse letters have elements
    pub inverse_word-elem : (w : List (RingLetter A)) → OfElements R w → OfElements R (inverse_word R w)
    inverse_word-elem [] p = tt
    inverse_word-elem (x ∷ w) p = OfElements-append (inverse_word R w) ((x.0, R.neg x.1) ∷ []) (inverse_word-elem w p.1) (ring.laws.neg_elem x.1 p.0, tt)

    module _ (terms : ℕ → ℕ → List CommutatorTerm) (before : ℕ → ℕ → Bool) where
      -- what takes the place of two neighbours has elements
      pub replacement-elem : (x y : RingLetter A) → IsElem R x.1 → IsElem R y.1 → OfElements R (replacement R terms x y)
      replacement-elem x y p q = elim (eqb x.0 y.0) as (λ b. OfElements R (cond b ((x.0, R.add x.1 y.1) ∷ []) (cond (nat_lt y.0 x.0) (y ∷ x ∷ term_word R (terms y.0 x.0) y.1 x.1) (y ∷ x ∷ inverse_word R (term_word R (terms x.0 y.0) x.1 y.1))))) [
        | true ↦ (ring.laws.add_elem x.1 y.1 p q, tt)
        | false ↦ elim (nat_lt y.0 x.0) as (λ b. OfElements R (cond b (y ∷ x ∷ term_word R (terms y.0 x.0) y.1 x.1) (y ∷ x ∷ inverse_word R (term_word R (terms x.0 y.0) x.1 y.1)))) [
          | true ↦ (q, (p, term_word-elem (terms y.0 x.0) y.1 x.1 q p))
          | false ↦ (q, (p, inverse_word-elem (term_word R (terms x.0 y.0) x.1 y.1) (term_word-elem (terms x.0 y.0) x.1 y.1 p q)))
        ]
      ]

      next-elem : (x : RingLetter A) (w : List (RingLetter A)) → IsElem R x.1 → OfElements R w → SomeOf R (next_word R terms before x w)
      next-elem x [] p q = tt
      next-elem x (y ∷ w) p q = elim (cond (eqb x.0 y.0) true (before y.0 x.0)) as (λ b. SomeOf R (cond b (Some (replacement R terms x y ++ w)) (option_map (λ v. x ∷ v) (next_word R terms before y w)))) [
        | true ↦ OfElements-append (replacement R terms x y) w (replacement-elem x y p q.0) q.1
        | false ↦ put_first-elem x p (next_word R terms before y w) (next-elem y w q.0 q.1)
      ]

      -- the word after a replacement has elements
      pub rewritten-elem : (w : List (RingLetter A)) → OfElements R w → SomeOf R (rewritten R terms before w)
      rewritten-elem [] p = tt
      rewritten-elem (x ∷ w) p = next-elem x w p.0 p.1
