-- How a letter moves to its place in a sorted word, for any order of the roots.
use Rattle.std.proofs.Common.{◌≡◌, ℕ, suc, get_or, inl, inr, ◌⊎◌, ◌<◌, ◌≤◌, Bool, true, false, cond, List, [], ◌∷◌, ◌++◌, Some, eqb, refl, sym, ap, ◌∙◌, subst, arith, append_assoc}
use Rattle.std.proofs.lemmas.List.{append-nil}
use Rattle.std.proofs.lemmas.Bool.Decides.{nat_tests}
use Rattle.std.specs.Prelude.{nat_lt}
use Rattle.lie_unip.specs.Placing.{Leads, crossing, BeforeRoots, AreRoots, terms_between, letters_at}
use Rattle.lie_unip.proofs.ZeroLemmas.{zero_first, zero_second, zero_inverted, IsCollected-dropped}
use Rattle.lie_unip.proofs.SortedLemmas.{sorted_none}
use Rattle.lie_unip.proofs.FullWordLemmas.{AreElements}
use Rattle.lie_unip.specs.Collection.{IsCollected, elements, at_end}
use Rattle.lie_unip.specs.Dropping.{dropped, nothing}
use Rattle.lie_ring.specs.Rings.{RingOn, IsRing}
use Rattle.lie_letters.specs.RingLetters.{RingLetter, CommutatorTerm, term_word, inverse_word, IsRingWord}
use Rattle.lie_unip.specs.Collection.{replacement, IsStrictOrder, AreCollectable}
use Rattle.lie_unip.proofs.ElementLemmas.{term_word-elem, inverse_word-elem}
use Rattle.lie_unip.proofs.BoundLemmas.{Within-terms, Within-inverse_word}
use Rattle.lie_unip.proofs.SortedLemmas.{bad, BeforeAll, Sorted, first_pair, before_other}
use Rattle.lie_unip.specs.Dropping.{Dropped, kept}
use Rattle.lie_unip.proofs.ZeroLemmas.{Dropped-refl, Dropped-append}
use Rattle.lie_unip.specs.Placing.{Leads}
use Rattle.lie_unip.proofs.FullWordLemmas.{IsCollected-added, step_leads, lawful_append, sorted_front}

-- all that arises where the letter at r and a passes these letters is 0
abbrev pub Still : {A : Type 0} → RingOn A → (ℕ → ℕ → List CommutatorTerm) → ℕ → A → List (RingLetter A) → Type 0
Still R terms r a [] = Unit {0}
Still R terms r a (y ∷ w) = Dropped R (crossing R terms r a y) [] × Still R terms r a w

-- the two parts of a word of letters over the ring
pub lawful_parts : {A : Type 0} (R : RingOn A) (m : ℕ) (v w : List (RingLetter A)) → IsRingWord R m (v ++ w) → IsRingWord R m v × IsRingWord R m w
lawful_parts R m [] w l = ((tt, tt), l)
lawful_parts R m (x ∷ v) w l = let k = lawful_parts R m v w (l.0.1, l.1.2) in (((l.0.0, k.0.0), (l.1.0, l.1.1, k.0.1)), k.1)

module _ {A : Type 0} (R : RingOn A) (ring : IsRing R) (m : ℕ) (terms : ℕ → ℕ → List CommutatorTerm) (collectable : AreCollectable m terms) (before : ℕ → ℕ → Bool) (order : IsStrictOrder before) where
  abbrev Up : List (RingLetter A) → List (RingLetter A) → Type 0
  Up w v = Leads R terms before m w v

  join : (v w : List (RingLetter A)) → IsRingWord R m v → IsRingWord R m w → IsRingWord R m (v ++ w)
  join = lawful_append R ring m terms collectable before order

  -- a letter that belongs after it is passed
  pub swap : (P : List (RingLetter A)) (y : RingLetter A) (r : ℕ) (a : A) (W : List (RingLetter A)) → Sorted before (P ++ y ∷ []) → before r y.0 ≡ true
      → Up (P ++ y ∷ (r, a) ∷ W) (P ++ (r, a) ∷ y ∷ (crossing R terms r a y ++ W))
  swap P y r a W s h =
      let other : eqb y.0 r ≡ false = let o = before_other before order r y.0 h in grind (arith, nat_tests) in
      let is_bad : bad {A = A} before y (r, a) ≡ true = rw other h in
      let word : replacement R terms y (r, a) ≡ (r, a) ∷ y ∷ crossing R terms r a y = rw other (two (nat_lt r y.0)) in
      step_leads R ring m terms collectable before order (P ++ y ∷ (r, a) ∷ W) (P ++ (r, a) ∷ y ∷ (crossing R terms r a y ++ W))
      (first_pair before order R terms P y (r, a) W s is_bad ∙ ap (λ z. Some (P ++ (z ++ W))) word)
    where
      two : (b : Bool) → cond b ((r, a) ∷ y ∷ term_word R (terms r y.0) a y.1) ((r, a) ∷ y ∷ inverse_word R (term_word R (terms y.0 r) y.1 a))
          ≡ (r, a) ∷ y ∷ cond b (term_word R (terms r y.0) a y.1) (inverse_word R (term_word R (terms y.0 r) y.1 a))
      two true = refl
      two false = refl

  -- the letters at one root are added
  pub merge : (P : List (RingLetter A)) (r : ℕ) (x a : A) (W : List (RingLetter A)) → Sorted before (P ++ (r, x) ∷ []) → Up (P ++ (r, x) ∷ (r, a) ∷ W) (P ++ (r, R.add x a) ∷ W)
  merge P r x a W s =
      let same : eqb r r ≡ true = grind (arith, nat_tests) in
      let is_bad : bad {A = A} before (r, x) (r, a) ≡ true = rw same refl in
      let word : replacement R terms (r, x) (r, a) ≡ (r, R.add x a) ∷ [] = rw same refl in
      step_leads R ring m terms collectable before order (P ++ (r, x) ∷ (r, a) ∷ W) (P ++ (r, R.add x a) ∷ W)
      (first_pair before order R terms P (r, x) (r, a) W s is_bad ∙ ap (λ z. Some (P ++ (z ++ W))) word)

  -- the letters that arise where one passes another are letters over the ring
  pub crossing_lawful : (r : ℕ) (a : A) (y : RingLetter A) → before r y.0 ≡ true → IsRingWord R m ((r, a) ∷ []) → IsRingWord R m (y ∷ []) → IsRingWord R m (crossing R terms r a y)
  crossing_lawful r a y h la ly = go (nat_lt r y.0) refl
    where
      go : (b : Bool) → nat_lt r y.0 ≡ b → IsRingWord R m (cond b (term_word R (terms r y.0) a y.1) (inverse_word R (term_word R (terms y.0 r) y.1 a)))
      go true e =
          let below : r < y.0 = grind (arith, nat_tests) in
          (term_word-elem R ring (terms r y.0) a y.1 la.0.0 ly.0.0, Within-terms R m y.0 (terms r y.0) a y.1 (collectable.later r y.0 la.1.0 below ly.1.1))
      go false e =
          let o = before_other before order r y.0 h in
          let below : y.0 < r = grind (arith, nat_tests) in
          let t = term_word R (terms y.0 r) y.1 a in (
            inverse_word-elem R ring t (term_word-elem R ring (terms y.0 r) y.1 a ly.0.0 la.0.0),
            Within-inverse_word R m t (Within-terms R m r (terms y.0 r) y.1 a (collectable.later y.0 r ly.1.0 below la.1.1)),
          )

  -- letters are passed where nothing but 0 arises
  pub pass_still : (P Q : List (RingLetter A)) (r : ℕ) (a : A) (W : List (RingLetter A)) → Sorted before (P ++ Q) → BeforeAll before r Q → Still R terms r a Q
      → IsRingWord R m ((r, a) ∷ []) → IsRingWord R m P → IsRingWord R m Q → IsRingWord R m W → Up ((P ++ Q) ++ (r, a) ∷ W) (P ++ (r, a) ∷ (Q ++ W))
  pass_still P [] r a W s b i la lp lq lw = subst (λ z. Up (z ++ (r, a) ∷ W) (P ++ (r, a) ∷ W)) (sym (append-nil P)) (λ u c. c)
  pass_still P (y ∷ Q) r a W s b i la lp lq lw =
      let moved : P ++ y ∷ Q ≡ (P ++ y ∷ []) ++ Q = sym (append_assoc P (y ∷ []) Q) in
      let ly : IsRingWord R m (y ∷ []) = ((lq.0.0, tt), (lq.1.0, lq.1.1, tt)) in
      let lrest : IsRingWord R m Q = (lq.0.1, lq.1.2) in
      let sorted : Sorted before ((P ++ y ∷ []) ++ Q) = subst (λ z. Sorted before z) moved s in
      let known = pass_still (P ++ y ∷ []) Q r a W sorted b.1 i.1 la (join P (y ∷ []) lp ly) lrest lw in
      let first : Up ((P ++ y ∷ Q) ++ (r, a) ∷ W) ((P ++ y ∷ []) ++ (r, a) ∷ (Q ++ W)) = subst (λ z. Up (z ++ (r, a) ∷ W) ((P ++ y ∷ []) ++ (r, a) ∷ (Q ++ W))) (sym moved) known in
      let first' : Up ((P ++ y ∷ Q) ++ (r, a) ∷ W) (P ++ y ∷ (r, a) ∷ (Q ++ W)) = subst (λ z. Up ((P ++ y ∷ Q) ++ (r, a) ∷ W) z) (append_assoc P (y ∷ []) ((r, a) ∷ (Q ++ W))) first in
      let T = crossing R terms r a y in
      let second = swap P y r a (Q ++ W) (sorted_front R ring m terms collectable before (P ++ y ∷ []) Q sorted) b.0 in
      let gone : Dropped R (P ++ (r, a) ∷ y ∷ (T ++ (Q ++ W))) (P ++ (r, a) ∷ y ∷ (Q ++ W)) =
      Dropped-append R (Dropped-refl R P) (kept (r, a) (kept y (Dropped-append R i.0 (Dropped-refl R (Q ++ W))))) in
      let whole : IsRingWord R m (P ++ (r, a) ∷ y ∷ (T ++ (Q ++ W))) =
      join P ((r, a) ∷ y ∷ (T ++ (Q ++ W))) lp
      (join ((r, a) ∷ []) (y ∷ (T ++ (Q ++ W))) la
      (join (y ∷ []) (T ++ (Q ++ W)) ly (join T (Q ++ W) (crossing_lawful r a y b.0 la ly) (join Q W lrest lw)))) in
      λ u c. first' u (second u (IsCollected-added R ring m terms collectable before order (P ++ (r, a) ∷ y ∷ (T ++ (Q ++ W))) (P ++ (r, a) ∷ y ∷ (Q ++ W)) u gone whole c))

  -- a letter that is 0, or whose root has no terms with r, is passed without a trace
  idle_crossing : (r : ℕ) (a : A) (y : RingLetter A) → before r y.0 ≡ true → IsRingWord R m ((r, a) ∷ []) → IsRingWord R m (y ∷ [])
      → (y.1 ≡ R.zero) ⊎ (terms_between terms r y.0 ≡ []) → Dropped R (crossing R terms r a y) []
  idle_crossing r a y h la ly i = go (nat_lt r y.0) refl i
    where
      go : (b : Bool) → nat_lt r y.0 ≡ b → (y.1 ≡ R.zero) ⊎ (cond b (terms r y.0) (terms y.0 r) ≡ [])
          → Dropped R (cond b (term_word R (terms r y.0) a y.1) (inverse_word R (term_word R (terms y.0 r) y.1 a))) []
      go true e (inl z) =
          let below : r < y.0 = grind (arith, nat_tests) in
          subst (λ z. Dropped R (term_word R (terms r y.0) a z) []) (sym z) (zero_second R ring m y.0 (terms r y.0) a la.0.0 (collectable.later r y.0 la.1.0 below ly.1.1))
      go true e (inr z) = subst (λ cs. Dropped R (term_word R cs a y.1) []) (sym z) nothing
      go false e (inl z) =
          let o = before_other before order r y.0 h in
          let below : y.0 < r = grind (arith, nat_tests) in
          subst (λ z. Dropped R (inverse_word R (term_word R (terms y.0 r) z a)) []) (sym z)
          (zero_inverted R ring (zero_first R ring m r (terms y.0 r) a la.0.0 (collectable.later y.0 r ly.1.0 below la.1.1)) refl)
      go false e (inr z) = subst (λ cs. Dropped R (inverse_word R (term_word R cs y.1 a)) []) (sym z) nothing

  -- such letters, at the roots of a list
  pub idle_still : (ks : List ℕ) (c : List A) (r : ℕ) (a : A) → BeforeRoots before r ks → AreRoots m ks → AreElements R c → IsRingWord R m ((r, a) ∷ [])
      → ((j : ℕ) → (get_or c j R.zero ≡ R.zero) ⊎ (terms_between terms r (get_or ks j 0) ≡ [])) → Still R terms r a (letters_at ks c)
  idle_still [] c r a b q e la h = tt
  idle_still (k ∷ ks) [] r a b q e la h = tt
  idle_still (k ∷ ks) (x ∷ c) r a b q e la h = (
    idle_crossing r a (k, x) b.0 la ((e.0, tt), (q.0, q.1, tt)) (h 0),
    idle_still ks c r a b.1 q.2 e.1 la (λ j. h (suc j)),
  )

  -- a letter passes the last letter that isn't 0
  pub passed : (P Q : List (RingLetter A)) (k : ℕ) (x : A) (r : ℕ) (a : A) (W : List (RingLetter A)) → Sorted before (P ++ (k, x) ∷ Q) → before r k ≡ true → Dropped R Q []
      → IsRingWord R m (P ++ (k, x) ∷ Q) → IsRingWord R m ((r, a) ∷ []) → IsRingWord R m W
      → Up ((P ++ (k, x) ∷ Q) ++ (r, a) ∷ W) ((P ++ (k, R.zero) ∷ Q) ++ (r, a) ∷ (k, x) ∷ (crossing R terms r a (k, x) ++ W))
  passed P Q k x r a W s h gone ls la lw =
      let T = crossing R terms r a (k, x) in
      let V : List (RingLetter A) = (k, x) ∷ (T ++ W) in
      let parts = lawful_parts R m P ((k, x) ∷ Q) ls in
      let lp = parts.0 in
      let lx : IsRingWord R m ((k, x) ∷ []) = ((parts.1.0.0, tt), (parts.1.1.0, parts.1.1.1, tt)) in
      let lq : IsRingWord R m Q = (parts.1.0.1, parts.1.1.2) in
      let lzq : IsRingWord R m ((k, R.zero) ∷ Q) = ((ring.laws.zero_elem, lq.0), (parts.1.1.0, parts.1.1.1, lq.1)) in
      let lv : IsRingWord R m V = join ((k, x) ∷ []) (T ++ W) lx (join T W (crossing_lawful r a (k, x) h la lx) lw) in
      let law : IsRingWord R m ((r, a) ∷ W) = join ((r, a) ∷ []) W la lw in
      let lav : IsRingWord R m ((r, a) ∷ V) = join ((r, a) ∷ []) V la lv in
      let w1 : List (RingLetter A) = P ++ (k, x) ∷ (Q ++ (r, a) ∷ W) in
      let v1 : List (RingLetter A) = P ++ (k, x) ∷ (r, a) ∷ W in
      let w2 : List (RingLetter A) = P ++ (k, R.zero) ∷ (Q ++ (r, a) ∷ V) in
      let v2 : List (RingLetter A) = P ++ (r, a) ∷ V in
      let d1 : Dropped R w1 v1 = Dropped-append R (Dropped-refl R P) (kept (k, x) (Dropped-append R gone (Dropped-refl R ((r, a) ∷ W)))) in
      let d2 : Dropped R w2 v2 = Dropped-append R (Dropped-refl R P) (dropped k (Dropped-append R gone (Dropped-refl R ((r, a) ∷ V)))) in
      let l1 : IsRingWord R m w1 = join P ((k, x) ∷ (Q ++ (r, a) ∷ W)) lp (join ((k, x) ∷ Q) ((r, a) ∷ W) parts.1 law) in
      let l2 : IsRingWord R m w2 = join P ((k, R.zero) ∷ (Q ++ (r, a) ∷ V)) lp (join ((k, R.zero) ∷ Q) ((r, a) ∷ V) lzq lav) in
      let sorted : Sorted before ((P ++ (k, x) ∷ []) ++ Q) = subst (λ z. Sorted before z) (sym (append_assoc P ((k, x) ∷ []) Q)) s in
      let move = swap P (k, x) r a W (sorted_front R ring m terms collectable before (P ++ (k, x) ∷ []) Q sorted) h in
      λ u c.
      let c2 : IsCollected R terms before m w2 u = subst (λ w. IsCollected R terms before m w u) (append_assoc P ((k, R.zero) ∷ Q) ((r, a) ∷ V)) c in
      let c3 = IsCollected-dropped R ring m terms collectable before order w2 v2 u d2 l2.0 l2.1 c2 in
      let c4 = IsCollected-added R ring m terms collectable before order w1 v1 u d1 l1 (move u c3) in
      subst (λ w. IsCollected R terms before m w u) (sym (append_assoc P ((k, x) ∷ Q) ((r, a) ∷ W))) c4

  -- a letter that leaves no trace where it passes the letters after its root is added at its root
  pub settled : (P Q : List (RingLetter A)) (r : ℕ) (x a : A) (W : List (RingLetter A)) → Sorted before (P ++ (r, x) ∷ Q) → Still R terms r a Q
      → IsRingWord R m (P ++ (r, x) ∷ Q) → IsRingWord R m ((r, a) ∷ []) → IsRingWord R m W
      → Up ((P ++ (r, x) ∷ Q) ++ (r, a) ∷ W) ((P ++ (r, R.add x a) ∷ Q) ++ W)
  settled P Q r x a W s i ls la lw =
      let sum = R.add x a in
      let parts = lawful_parts R m P ((r, x) ∷ Q) ls in
      let lp = parts.0 in
      let lx : IsRingWord R m ((r, x) ∷ []) = ((parts.1.0.0, tt), (parts.1.1.0, parts.1.1.1, tt)) in
      let lq : IsRingWord R m Q = (parts.1.0.1, parts.1.1.2) in
      let cut : P ++ (r, x) ∷ Q ≡ (P ++ (r, x) ∷ []) ++ Q = sym (append_assoc P ((r, x) ∷ []) Q) in
      let sorted : Sorted before ((P ++ (r, x) ∷ []) ++ Q) = subst (λ z. Sorted before z) cut s in
      let first = pass_still (P ++ (r, x) ∷ []) Q r a W sorted (sorted_back P (r, x) Q s) i la (join P ((r, x) ∷ []) lp lx) lq lw in
      let second = merge P r x a (Q ++ W) (sorted_front R ring m terms collectable before (P ++ (r, x) ∷ []) Q sorted) in
      let start : (P ++ (r, x) ∷ Q) ++ (r, a) ∷ W ≡ ((P ++ (r, x) ∷ []) ++ Q) ++ (r, a) ∷ W = ap (λ z. z ++ (r, a) ∷ W) cut in
      let middle : (P ++ (r, x) ∷ []) ++ (r, a) ∷ (Q ++ W) ≡ P ++ (r, x) ∷ (r, a) ∷ (Q ++ W) = append_assoc P ((r, x) ∷ []) ((r, a) ∷ (Q ++ W)) in
      λ u c.
      let c1 = second u (subst (λ z. IsCollected R terms before m z u) (append_assoc P ((r, sum) ∷ Q) W) c) in
      let c2 = first u (subst (λ z. IsCollected R terms before m z u) (sym middle) c1) in
      subst (λ z. IsCollected R terms before m z u) (sym start) c2
    where
      sorted_back : (P : List (RingLetter A)) (x : RingLetter A) (Q : List (RingLetter A)) → Sorted before (P ++ x ∷ Q) → BeforeAll before x.0 Q
      sorted_back [] x Q s = s.0
      sorted_back (y ∷ P) x Q s = sorted_back P x Q s.1

  -- a letter that is 0 may be left out
  pub skipped : (S : List (RingLetter A)) (r : ℕ) (W : List (RingLetter A)) → 1 ≤ r → r ≤ m → IsRingWord R m S → IsRingWord R m W → Up (S ++ (r, R.zero) ∷ W) (S ++ W)
  skipped S r W low high ls lw =
      let l0 : IsRingWord R m ((r, R.zero) ∷ W) = ((ring.laws.zero_elem, lw.0), (low, high, lw.1)) in
      λ u d. IsCollected-added R ring m terms collectable before order (S ++ (r, R.zero) ∷ W) (S ++ W) u
      (Dropped-append R (Dropped-refl R S) (dropped r (Dropped-refl R W))) (join S ((r, R.zero) ∷ W) ls l0) d

  -- zeros in front of a word don't matter
  pub after_zeros : (S W : List (RingLetter A)) (u : List A) → Dropped R S [] → IsRingWord R m S → IsRingWord R m W → IsCollected R terms before m (S ++ W) u → IsCollected R terms before m W u
  after_zeros S W u d ls lw c =
      let whole = join S W ls lw in
      IsCollected-dropped R ring m terms collectable before order (S ++ W) W u (Dropped-append R d (Dropped-refl R W)) whole.0 whole.1 c

  -- a sorted word is its own end
  pub collected_sorted : (S : List (RingLetter A)) → Sorted before S → IsCollected R terms before m S (elements R m S)
  collected_sorted S s = record { last = S; ends = at_end (sorted_none before order R terms S s); list = refl }
