-- The first part of a word may be collected first, and the terms of roots beyond the last play no part.
use Rattle.std.proofs.Common.{◌≡◌, ℕ, ◌<◌, ◌≤◌, Bool, true, false, cond, List, [], ◌∷◌, ◌++◌, Option, None, Some, eqb, refl, sym, ap, ap₂, ◌∙◌, subst, arith, append_assoc}
use Rattle.std.proofs.lemmas.Bool.Decides.{nat_tests}
use Rattle.std.specs.Prelude.{nat_lt}
use Rattle.std.specs.Option.{option_map}
use Rattle.lie_ring.specs.Rings.{RingOn, IsRing}
use Rattle.lie_letters.specs.RingLetters.{RingLetter, CommutatorTerm, term_word, inverse_word, Within, OfElements, full_word}
use Rattle.lie_unip.specs.Collection.{replacement, next_word, rewritten, Ends, at_end, by_step, IsCollected, AreCollectable}
use Rattle.lie_unip.specs.Placing.{Leads}
use Rattle.lie_unip.proofs.BoundLemmas.{rewritten-within, SomeWithin, Within-append}
use Rattle.lie_unip.proofs.ElementLemmas.{OfElements-append}
use Rattle.lie_unip.proofs.FullWordLemmas.{nat_lt_order}
use Rattle.lie_unip.proofs.JoinedLemmas.{collected_full, ends_joined}
use Rattle.lie_unip.proofs.SortedLemmas.{bad}
use Rattle.lie_unip.proofs.ZeroLemmas.{Dropped-refl, Dropped-append, IsCollected-dropped}

module _ {A : Type 0} (R : RingOn A) (terms : ℕ → ℕ → List CommutatorTerm) (before : ℕ → ℕ → Bool) where
  next-front : (y : RingLetter A) (w v x : List (RingLetter A)) → next_word R terms before y w ≡ Some v → next_word R terms before y (w ++ x) ≡ Some (v ++ x)
  next-front y [] v x e = absurd (cc)
  next-front y (z ∷ w) v x e = go (bad before y z) (next_word R terms before z w) refl (λ u f. next-front z w u x f) e
    where
      go : (t : Bool) (o : Option (List (RingLetter A))) → next_word R terms before z w ≡ o → ((u : List (RingLetter A)) → next_word R terms before z w ≡ Some u → next_word R terms before z (w ++ x) ≡ Some (u ++ x))
          → cond t (Some (replacement R terms y z ++ w)) (option_map (λ u. y ∷ u) o) ≡ Some v
          → cond t (Some (replacement R terms y z ++ (w ++ x))) (option_map (λ u. y ∷ u) (next_word R terms before z (w ++ x))) ≡ Some (v ++ x)
      go true o f on e = let is : (replacement R terms y z ++ w) ≡ v = cc in ap Some (sym (append_assoc (replacement R terms y z) w x) ∙ ap (λ u. u ++ x) is)
      go false None f on e = absurd (cc)
      go false (Some u) f on e = let is : (y ∷ u) ≡ v = cc in ap (option_map (λ t. y ∷ t)) (on u f) ∙ ap (λ t. Some (t ++ x)) is

  rewritten-front : (w v x : List (RingLetter A)) → rewritten R terms before w ≡ Some v → rewritten R terms before (w ++ x) ≡ Some (v ++ x)
  rewritten-front [] v x e = absurd (cc)
  rewritten-front (y ∷ w) v x e = next-front y w v x e

  -- the first part of a word is collected first
  Ends-front : (m : ℕ) {w z : List (RingLetter A)} (x : List (RingLetter A)) → Ends R terms before w z → Leads R terms before m (w ++ x) (z ++ x)
  Ends-front m x (at_end e) = λ u c. c
  Ends-front m x (by_step {w = w} {v = v} e r) =
      let rest = Ends-front m x r in λ u c. (let d = rest u c in record { last = d.last; ends = by_step (rewritten-front w v x e) d.ends; list = d.list })

module _ {A : Type 0} (R : RingOn A) (ring : IsRing R) (m : ℕ) (terms : ℕ → ℕ → List CommutatorTerm) (collectable : AreCollectable m terms) where
  -- the full word of its collected list may stand for the first part of a word
  pub IsCollected-front : (w x : List (RingLetter A)) (u z : List A) → OfElements R w → Within m w → OfElements R (full_word u) → Within m (full_word u) → OfElements R x → Within m x
      → IsCollected R terms nat_lt m w u → IsCollected R terms nat_lt m (full_word u ++ x) z → IsCollected R terms nat_lt m (w ++ x) z
  IsCollected-front w x u z p q full full_in o i c d =
      let within = (ends_joined R ring m terms collectable nat_lt c.ends p q).1 in
      let drops = Dropped-append R (collected_full R ring m terms w u c within) (Dropped-refl R x) in
      Ends-front R terms nat_lt m x c.ends z
      (IsCollected-dropped R ring m terms collectable nat_lt nat_lt_order (full_word u ++ x) (c.last ++ x) z drops (OfElements-append R (full_word u) x full o) (Within-append R m (full_word u) x full_in i) d)

-- two families of terms that are the same at the first m roots
module _ {A : Type 0} (R : RingOn A) (m : ℕ) (terms others : ℕ → ℕ → List CommutatorTerm) (collectable : AreCollectable m terms)
    (alike : (r s : ℕ) → 1 ≤ r → r < s → s ≤ m → terms r s ≡ others r s) (before : ℕ → ℕ → Bool) where
  replacement-alike : (x y : RingLetter A) → 1 ≤ x.0 → x.0 ≤ m → 1 ≤ y.0 → y.0 ≤ m → replacement R terms x y ≡ replacement R others x y
  replacement-alike x y xl xh yl yh = go (eqb x.0 y.0) refl (nat_lt y.0 x.0) refl
    where
      go : (b : Bool) → eqb x.0 y.0 ≡ b → (c : Bool) → nat_lt y.0 x.0 ≡ c
          → cond b ((x.0, R.add x.1 y.1) ∷ []) (cond c (y ∷ x ∷ term_word R (terms y.0 x.0) y.1 x.1) (y ∷ x ∷ inverse_word R (term_word R (terms x.0 y.0) x.1 y.1)))
          ≡ cond b ((x.0, R.add x.1 y.1) ∷ []) (cond c (y ∷ x ∷ term_word R (others y.0 x.0) y.1 x.1) (y ∷ x ∷ inverse_word R (term_word R (others x.0 y.0) x.1 y.1)))
      go true e c f = refl
      go false e true f = let below : y.0 < x.0 = grind (arith, nat_tests) in ap (λ cs. y ∷ x ∷ term_word R cs y.1 x.1) (alike y.0 x.0 yl below xh)
      go false e false f = let below : x.0 < y.0 = grind (arith, nat_tests) in ap (λ cs. y ∷ x ∷ inverse_word R (term_word R cs x.1 y.1)) (alike x.0 y.0 xl below yh)

  next-alike : (x : RingLetter A) (w : List (RingLetter A)) → Within m (x ∷ w) → next_word R terms before x w ≡ next_word R others before x w
  next-alike x [] h = refl
  next-alike x (y ∷ w) h =
      ap₂ (λ (p : List (RingLetter A)) (o : Option (List (RingLetter A))). cond (bad before x y) (Some (p ++ w)) (option_map (λ v. x ∷ v) o))
      (replacement-alike x y h.0 h.1 h.2.0 h.2.1) (next-alike y w h.2)

  rewritten-alike : (w : List (RingLetter A)) → Within m w → rewritten R terms before w ≡ rewritten R others before w
  rewritten-alike [] h = refl
  rewritten-alike (x ∷ w) h = next-alike x w h

  Ends-alike : {w z : List (RingLetter A)} → Ends R terms before w z → Within m w → Ends R others before w z
  Ends-alike (at_end {w = w} e) h = at_end (sym (rewritten-alike w h) ∙ e)
  Ends-alike (by_step {w = w} {v = v} e r) h =
      by_step (sym (rewritten-alike w h) ∙ e) (Ends-alike r (subst (SomeWithin m) e (rewritten-within R m terms before collectable w h)))

  -- a word has the same collected list
  pub IsCollected-alike : (w : List (RingLetter A)) (u : List A) → Within m w → IsCollected R terms before m w u → IsCollected R others before m w u
  IsCollected-alike w u h c = record { last = c.last; ends = Ends-alike c.ends h; list = c.list }
