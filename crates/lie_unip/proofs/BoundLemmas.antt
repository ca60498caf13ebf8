-- The letters of a collected word are at the first m roots where those of the word are.
use Rattle.std.proofs.Common.{◌≡◌, ℕ, ◌<◌, ◌≤◌, Bool, true, false, cond, List, [], ◌∷◌, ◌++◌, Option, None, Some, eqb, refl, arith}
use Rattle.std.proofs.lemmas.Bool.Decides.{nat_tests}
use Rattle.std.specs.Option.{option_map}
use Rattle.std.specs.Prelude.{nat_lt}
use Rattle.lie_ring.specs.Rings.{RingOn}
use Rattle.lie_letters.specs.RingLetters.{RingLetter, CommutatorTerm, term_word, inverse_word, Within}
use Rattle.lie_unip.specs.Collection.{replacement, next_word, rewritten, ComeAfter, AreCollectable}

-- a word, if there is one, is at the first m roots
abbrev pub SomeWithin : {A : Type 0} → ℕ → Option (List (RingLetter A)) → Type 0
SomeWithin m None = Unit {0}
SomeWithin m (Some w) = Within m w

module _ {A : Type 0} (R : RingOn A) (m : ℕ) where
  -- two words at the first m roots, joined
  pub Within-append : (v w : List (RingLetter A)) → Within m v → Within m w → Within m (v ++ w)
  Within-append [] w p q = q
  Within-append (x ∷ v) w p q = (p.0, p.1, Within-append v w p.2 q)

  -- the letters of terms that come after s
  pub Within-terms : (s : ℕ) (cs : List CommutatorTerm) (t u : A) → ComeAfter m s cs → Within m (term_word R cs t u)
  Within-terms s [] t u h = tt
  Within-terms s (c ∷ cs) t u h = (omega (arith, h.0), h.1, Within-terms s cs t u h.4)

  -- the inverse letters
  pub Within-inverse_word : (w : List (RingLetter A)) → Within m w → Within m (inverse_word R w)
  Within-inverse_word [] h = tt
  Within-inverse_word (x ∷ w) h = Within-append (inverse_word R w) ((x.0, R.neg x.1) ∷ []) (Within-inverse_word w h.2) (h.0, h.1, tt)

  module _ (terms : ℕ → ℕ → List CommutatorTerm) (before : ℕ → ℕ → Bool) (collectable : AreCollectable m terms) where
    -- what takes the place of two neighbours
    pub Within-replacement : (x y : RingLetter A) → Within m (x ∷ y ∷ []) → Within m (replacement R terms x y)
    Within-replacement x y h = go (eqb x.0 y.0) refl (nat_lt y.0 x.0) refl
      where
        go : (b : Bool) → eqb x.0 y.0 ≡ b → (c : Bool) → nat_lt y.0 x.0 ≡ c
            → Within m (cond b ((x.0, R.add x.1 y.1) ∷ []) (cond c (y ∷ x ∷ term_word R (terms y.0 x.0) y.1 x.1) (y ∷ x ∷ inverse_word R (term_word R (terms x.0 y.0) x.1 y.1))))
        go true e c f = (h.0, h.1, tt)
        go false e true f =
            let below : y.0 < x.0 = grind (arith, nat_tests) in
            (h.2.0, h.2.1, (h.0, h.1, Within-terms x.0 (terms y.0 x.0) y.1 x.1 (collectable.later y.0 x.0 h.2.0 below h.1)))
        go false e false f =
            let below : x.0 < y.0 = grind (arith, nat_tests) in
            (h.2.0, h.2.1, (h.0, h.1, Within-inverse_word (term_word R (terms x.0 y.0) x.1 y.1) (Within-terms y.0 (terms x.0 y.0) x.1 y.1 (collectable.later x.0 y.0 h.0 below h.2.1))))

    put_first-within : (x : RingLetter A) → 1 ≤ x.0 → x.0 ≤ m → (o : Option (List (RingLetter A))) → SomeWithin m o → SomeWithin m (option_map (λ v. x ∷ v) o)
    put_first-within x a b None q = tt
    put_first-within x a b (Some w) q = (a, b, q)

    next-within : (x : RingLetter A) (w : List (RingLetter A)) → Within m (x ∷ w) → SomeWithin m (next_word R terms before x w)
    next-within x [] h = tt
    next-within x (y ∷ w) h =
        let later = next-within y w h.2 in
        elim (cond (eqb x.0 y.0) true (before y.0 x.0)) as (λ b. SomeWithin m (cond b (Some (replacement R terms x y ++ w)) (option_map (λ v. x ∷ v) (next_word R terms before y w)))) [
          | true ↦ Within-append (replacement R terms x y) w (Within-replacement x y (h.0, h.1, (h.2.0, h.2.1, tt))) h.2.2
          | false ↦ put_first-within x h.0 h.1 (next_word R terms before y w) later
        ]

    -- the word after a replacement
    pub rewritten-within : (w : List (RingLetter A)) → Within m w → SomeWithin m (rewritten R terms before w)
    rewritten-within [] h = tt
    rewritten-within (x ∷ w) h = next-within x w h
