-- The exchange condition: a word that makes a simple root negative loses one letter by that reflection.
use Rattle.std.proofs.Common.{◌≡◌, ℕ, zero, suc, List, [], ◌∷◌, ◌++◌, length, refl, sym, ap, ◌∙◌, arith, ◌⊎◌, inl, inr, ⊎_elim, length-append}
use Rattle.lie_datum.specs.declared.root_pair.Root.{Root}
use Rattle.lie_datum.specs.RootDatum.{simple, reflected, IsSimpleIndex, IsRoot, is_simple, is_reflected, IsPositive}
use Rattle.lie_datum.specs.RootList.{RootDatum, IsLoaded}
use Rattle.lie_datum.specs.Laws.{reflected_in}
use Rattle.lie_datum.proofs.Turns.{turn_moves, reflected_in_simple}
use Rattle.lie_datum.proofs.LoadedLaws.{short, simple_or, positive_dec}
use Rattle.lie_weyl.specs.WeylElement.{moved, SameProduct}
use Rattle.lie_weyl.proofs.Words.{IsWord, letter, IsRoot-moved, lengths, moved-append, twice}
use Rattle.lie_weyl.proofs.Signs.{simple_up}

module _ (d : RootDatum) (loaded : IsLoaded d) where
  -- a word carries the reflection in r to the reflection in its image
  moved-turned : (w : List ℕ) (r t : Root) → IsWord d.base w → IsRoot d.base r → IsRoot d.base t → moved d.base w (reflected_in d.base r t) ≡ reflected_in d.base (moved d.base w r) (moved d.base w t)
  moved-turned [] r t h p q = refl
  moved-turned (i ∷ w) r t (letter s h) p q =
      ap (reflected d.base i) (moved-turned w r t h p q)
      ∙ turn_moves d.base (short d loaded) loaded.axioms.input.corank loaded.axioms.twos i (moved d.base w r) (moved d.base w t) s
      (lengths d loaded (moved d.base w r) (IsRoot-moved d loaded w r h p)) (lengths d loaded (moved d.base w t) (IsRoot-moved d loaded w t h q))

  -- the letter j may be left out of w, where s_i follows
  pub record Exchanged (w : List ℕ) (i : ℕ) : Type 0 where
    pub before : List ℕ
    pub left_out : ℕ
    pub after : List ℕ
    pub split : w ≡ before ++ left_out ∷ after
    pub word : IsWord d.base (before ++ after)
    pub same : (t : Root) → IsRoot d.base t → moved d.base w t ≡ moved d.base (before ++ after) (reflected d.base i t)

  pub exchange : (w : List ℕ) (i : ℕ) → IsWord d.base w → IsSimpleIndex d.base i → ¬ IsPositive (moved d.base w (simple i)) → Exchanged w i
  exchange w zero h s n = absurd (omega (arith, s.0))
  exchange [] (suc i) h s n = absurd (n (simple_up d loaded (suc i) s))
  exchange (zero ∷ w) (suc i) (letter l h) s n = absurd (omega (arith, l.0))
  exchange (suc j ∷ w) (suc i) (letter l h) s n = choose (λ m. exchange w (suc i) h s m) (positive_dec d loaded (moved d.base w (simple (suc i))) root)
    where
      root : IsRoot d.base (moved d.base w (simple (suc i)))
      root = IsRoot-moved d loaded w (simple (suc i)) h (is_simple (suc i) s)

      longer : Exchanged w (suc i) → Exchanged (suc j ∷ w) (suc i)
      longer e = record {
        before = suc j ∷ e.before;
        left_out = e.left_out;
        after = e.after;
        split = ap (λ v. suc j ∷ v) e.split;
        word = letter l e.word;
        same = λ t p. ap (reflected d.base (suc j)) (e.same t p);
      }

      choose : (¬ IsPositive (moved d.base w (simple (suc i))) → Exchanged w (suc i)) → IsPositive (moved d.base w (simple (suc i))) ⊎ (¬ IsPositive (moved d.base w (simple (suc i)))) → Exchanged (suc j ∷ w) (suc i)
      choose f (inr m) = longer (f m)
      choose f (inl m) = ⊎_elim
          (λ e. record {
            before = [];
            left_out = suc j;
            after = w;
            split = refl;
            word = h;
            same = λ t p. reflected_in_simple d.base (short d loaded) loaded.axioms.input.corank loaded.axioms.twos (suc j) (moved d.base w t) l
                ∙ ap (λ r. reflected_in d.base r (moved d.base w t)) (sym e) ∙ sym (moved-turned w (simple (suc i)) t h (is_simple (suc i) s) p)
                ∙ ap (moved d.base w) (sym (reflected_in_simple d.base (short d loaded) loaded.axioms.input.corank loaded.axioms.twos (suc i) t s));
          })
          (λ g. absurd (n g)) (simple_or d loaded j (moved d.base w (simple (suc i))) l root m)

  pub exchanged_length : (w : List ℕ) (i : ℕ) (e : Exchanged w i) → length w ≡ suc (length (e.before ++ e.after))
  exchanged_length w i e =
      ap length e.split ∙ length-append e.before (e.left_out ∷ e.after) ∙ (let f = length-append e.before e.after in omega (arith, f))

  -- the word with s_i behind it has the product of the shorter one
  pub exchanged_same : (w : List ℕ) (i : ℕ) → IsSimpleIndex d.base i → (e : Exchanged w i) → SameProduct d (w ++ i ∷ []) (e.before ++ e.after)
  exchanged_same w i s e r p =
      moved-append d.base w (i ∷ []) r ∙ e.same (reflected d.base i r) (is_reflected i r s p) ∙ ap (moved d.base (e.before ++ e.after)) (twice d loaded i r s p)
