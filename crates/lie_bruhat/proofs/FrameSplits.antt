-- In a lawful frame each word of positive root letters is split by each test of the roots: it is collected in the order in which the
-- roots that pass come first.
use Rattle.std.proofs.Common.{◌≡◌, ℕ, ◌-◌, ◌≤◌, ltb, T, Bool, true, false, cond, Option, None, Some, pos, nat_abs, List, [], ◌∷◌, ◌++◌, map, length, refl, sym, ap, ap₂, subst, ◌∙◌, arith, append_assoc}
use Rattle.std.proofs.lemmas.Int.{ints}
use Rattle.std.proofs.lemmas.Bool.{lt-ltb}
use Rattle.std.specs.Prelude.{nat_lt}
use Rattle.lie_base.specs.Below.{Below, same_below, is_below}
use Rattle.lie_field.specs.Quotient.{order}
use Rattle.lie_field.specs.FieldRing.{field_ring, field_is_ring}
use Rattle.lie_datum.specs.RootList.{RootDatum, all_roots}
use Rattle.lie_datum.specs.Numbers.{place}
use Rattle.lie_datum.proofs.NumberLemmas.{place_within}
use Rattle.lie_letters.specs.declared.letter.Letter.TheVariants.{X as CodeX}
use Rattle.lie_letters.specs.Setting.{Setting}
use Rattle.lie_letters.specs.Names.{RootName, signed_number}
use Rattle.lie_letters.specs.Frames.{FrameData, setting, IsLawfulFrame}
use Rattle.lie_letters.specs.Letters.{Word, X, H, N, Ninv}
use Rattle.lie_letters.specs.Relations.{Joined}
use Rattle.lie_letters.specs.SignedFrames.{Sign}
use Rattle.lie_letters.specs.GroupRelations.{GroupJoined}
use Rattle.lie_letters.specs.RingLetters.{RingLetter, IsRingWord}
use Rattle.lie_letters.specs.PositiveTerms.{positive_terms}
use Rattle.lie_letters.specs.Spelled.{spelled, root_letters}
use Rattle.lie_letters.proofs.ChainLemmas.{before}
use Rattle.lie_letters.proofs.NameLemmas.{named_is}
use Rattle.lie_letters.proofs.PositiveRootLemmas.{number_of_positive, positive_of_number}
use Rattle.lie_letters.proofs.CollectingLemmas.{positive_abs}
use Rattle.lie_letters.proofs.BridgeLemmas.{IsWordOver-ring, joined_over_ring}
use Rattle.lie_letters.proofs.GroupSpelledLemmas.{grouped}
use Rattle.lie_letters.proofs.SpelledLemmas.{words_same}
use Rattle.lie_unip.specs.Collection.{AreCollectable}
use Rattle.lie_unip.specs.Splitting.{kept_first}
use Rattle.lie_unip.proofs.DatumLemmas.{table_collectable, number_within}
use Rattle.lie_unip.proofs.SplitLemmas.{kept_first_order}
use Rattle.lie_unip.proofs.SortedLemmas.{Sorted, BeforeAll, ends_sorted}
use Rattle.lie_unip.proofs.EndingLemmas.{ends}
use Rattle.lie_unip.proofs.JoinedLemmas.{ends_joined}
use Rattle.lie_bruhat.proofs.MoveLemmas.{xs_word}
use Rattle.lie_bruhat.proofs.ShapeLemmas.{AllPositive}
use Rattle.lie_bruhat.proofs.ShapeLemmas.{RootLetters}
use Rattle.lie_bruhat.proofs.SplitLemmas.{AllGive, Splits}

pub xs-append : (S : Setting) (u v : RootLetters S) → xs_word S (u ++ v) ≡ xs_word S u ++ xs_word S v
xs-append S [] v = refl
xs-append S (a ∷ u) v = ap (λ w. X a.0 a.1 ∷ w) (xs-append S u v)

-- a number below n, where k is one
below_or : (n k : ℕ) (b : Bool) → ltb k n ≡ b → Option (Below n)
below_or n k true e = Some (record { number = k; below = subst T (sym e) tt })
below_or n k false e = None

answer : {A : Type 0} → (A → Bool) → Option A → Bool
answer test None = false
answer test (Some a) = test a

module _ (f : FrameData) (lawful : IsLawfulFrame f) where
  abbrev d : RootDatum
  d = f.datum

  abbrev m : ℕ
  m = length d.positive

  abbrev S : Setting
  S = setting f

  -- the test of a root by its number
  pub at_number : (RootName d → Bool) → ℕ → Bool
  at_number kept n = answer kept (below_or (length (all_roots d)) (n - 1) (ltb (n - 1) (length (all_roots d))) refl)

  pub at_number-is : (kept : RootName d → Bool) (r : RootName d) (n : ℕ) → signed_number d r ≡ pos n → at_number kept n ≡ kept r
  unfolding at_number answer below_or
  at_number-is kept r n e =
      let here = named_is d r in
      let p = place_within d (signed_number d r) here.number in
      let low : 1 ≤ n = (let l = p.0 in omega (arith, ints, l, e)) in
      let at : n - 1 ≡ r.number = positive_place n e low ∙ here.place in
      by (n - 1) at (ltb (n - 1) (length (all_roots d))) refl
    where
      positive_place : (n : ℕ) → signed_number d r ≡ pos n → 1 ≤ n → n - 1 ≡ place m (signed_number d r)
      positive_place n e low = sym (ap (place m) e ∙ at n low)
        where
          at : (n : ℕ) → 1 ≤ n → place m (pos n) ≡ n - 1
          at n low = refl

      by : (k : ℕ) → k ≡ r.number → (b : Bool) (g : ltb k (length (all_roots d)) ≡ b) → answer kept (below_or (length (all_roots d)) k b g) ≡ kept r
      by k at true g = ap kept (same_below (length (all_roots d)) (record { number = k; below = subst T (sym g) tt }) r at)
      by k at false g = absurd (let l = lt-ltb r.number (length (all_roots d)) (is_below (length (all_roots d)) r) in let h = sym (ap (λ j. ltb j (length (all_roots d))) at) ∙ g in cc)

  -- the letters by the numbers of their roots and elements
  pub numbered : RootLetters S → List (RingLetter ℕ)
  numbered [] = []
  numbered (a ∷ v) = (nat_abs (signed_number d a.0), a.1.number) ∷ numbered v

  pub numbered-spelled : (v : RootLetters S) → AllPositive S v → map (spelled f) (xs_word S v) ≡ root_letters (numbered v)
  unfolding numbered
  numbered-spelled [] h = refl
  numbered-spelled (a ∷ v) h =
      ap₂ (λ k w. CodeX k a.1.number ∷ w) (positive_abs (signed_number d a.0) (number_of_positive d lawful.loaded a.0 h.0)) (numbered-spelled v h.1)

  pub numbered-lawful : (v : RootLetters S) → IsRingWord (field_ring f.field) m (numbered v)
  unfolding numbered
  numbered-lawful [] = (tt, tt)
  numbered-lawful (a ∷ v) =
      let rest = numbered-lawful v in
      let l = number_within d (signed_number d a.0) (named_is d a.0).number in
      ((lt-ltb a.1.number (order f.field.given) (is_below (order f.field.given) a.1), rest.0), (l.0, l.1, rest.1))

  -- the letters have these numbers of roots and elements
  abbrev pub HaveNumbers : RootLetters S → List (RingLetter ℕ) → Type 0
  HaveNumbers [] [] = Unit {0}
  HaveNumbers [] (x ∷ w) = ⊥
  HaveNumbers (a ∷ v) [] = ⊥
  HaveNumbers (a ∷ v) (x ∷ w) = ((signed_number d a.0 ≡ pos x.0) × (a.1.number ≡ x.1)) × HaveNumbers v w

  -- a word that is spelled by root letters
  pub letters_of : (u : Word S) (w : List (RingLetter ℕ)) → map (spelled f) u ≡ root_letters w → (v : RootLetters S) × (u ≡ xs_word S v) × HaveNumbers v w
  letters_of [] [] e = ([], refl, tt)
  letters_of [] (x ∷ w) e = cc
  letters_of (a ∷ u) [] e = cc
  letters_of (X r a ∷ u) (x ∷ w) e =
      let first : signed_number d r ≡ pos x.0 = cc in
      let value : a.number ≡ x.1 = cc in
      let rest : map (spelled f) u ≡ root_letters w = cc in
      let k = letters_of u w rest in
      ((r, a) ∷ k.0, ap (λ z. X r a ∷ z) k.1, ((first, value), k.2))
  letters_of (H t ∷ u) (x ∷ w) e = cc
  letters_of (N i ∷ u) (x ∷ w) e = cc
  letters_of (Ninv i ∷ u) (x ∷ w) e = cc

  pub positive_letters : (v : RootLetters S) (w : List (RingLetter ℕ)) → HaveNumbers v w → AllPositive S v
  positive_letters [] w h = tt
  positive_letters (a ∷ v) [] h = absurd h
  positive_letters (a ∷ v) (x ∷ w) h =
      let p = place_within d (signed_number d a.0) (named_is d a.0).number in
      (positive_of_number d lawful.loaded a.0 (let e = h.0.0 in let l = p.0 in omega (arith, ints, e, l)), positive_letters v w h.1)

  module _ (kept : RootName d → Bool) where
    abbrev test : ℕ → Bool
    test = at_number kept

    -- behind a letter that does not pass no letter passes
    none_passes : (r : ℕ) (v : RootLetters S) (w : List (RingLetter ℕ)) → test r ≡ false → HaveNumbers v w → BeforeAll (kept_first test) r w → AllGive S kept false v
    none_passes r [] w e h b = tt
    none_passes r (a ∷ v) [] e h b = absurd h
    none_passes r (a ∷ v) (x ∷ w) e h b = (sym (at_number-is kept a.0 x.0 h.0.0) ∙ behind (test r) (test x.0) e b.0, none_passes r v w e h.1 b.1)
      where
        behind : (s t : Bool) → s ≡ false → cond s (cond t (nat_lt r x.0) true) (cond t false (nat_lt r x.0)) ≡ true → t ≡ false
        behind true t e h = cc
        behind false true e h = cc
        behind false false e h = refl

    -- the letters that pass, and those behind them
    pub record Cut (v : RootLetters S) : Type 0 where
      pub first : RootLetters S
      pub second : RootLetters S
      pub whole : v ≡ first ++ second
      pub first_kept : AllGive S kept true first
      pub second_kept : AllGive S kept false second
      pub numbers : List (RingLetter ℕ)
      pub have : HaveNumbers second numbers
      pub sorted : Sorted nat_lt numbers

    -- letters that do not pass stand in the order of the numbers
    rising : (v : RootLetters S) (w : List (RingLetter ℕ)) → HaveNumbers v w → AllGive S kept false v → Sorted (kept_first test) w → Sorted nat_lt w
    rising v [] h k s = tt
    rising [] (x ∷ w) h k s = absurd h
    rising (a ∷ v) (x ∷ w) h k s = (all v w h.1 k.1 s.0, rising v w h.1 k.1 s.1)
      where
        here : test x.0 ≡ false
        here = at_number-is kept a.0 x.0 h.0.0 ∙ k.0

        less : (n : ℕ) → (s t : Bool) → s ≡ false → t ≡ false → cond s (cond t (nat_lt x.0 n) true) (cond t false (nat_lt x.0 n)) ≡ true → nat_lt x.0 n ≡ true
        less n true t p q e = cc
        less n false true p q e = cc
        less n false false p q e = e

        all : (v : RootLetters S) (w : List (RingLetter ℕ)) → HaveNumbers v w → AllGive S kept false v → BeforeAll (kept_first test) x.0 w → BeforeAll nat_lt x.0 w
        all v [] h k b = tt
        all [] (y ∷ w) h k b = absurd h
        all (c ∷ v) (y ∷ w) h k b = (less y.0 (test x.0) (test y.0) here (at_number-is kept c.0 y.0 h.0.0 ∙ k.0) b.0, all v w h.1 k.1 b.1)

    cut : (v : RootLetters S) (w : List (RingLetter ℕ)) → HaveNumbers v w → Sorted (kept_first test) w → Cut v
    cut [] w h s = record { first = []; second = []; whole = refl; first_kept = tt; second_kept = tt; numbers = []; have = tt; sorted = tt }
    cut (a ∷ v) [] h s = absurd h
    cut (a ∷ v) (x ∷ w) h s = by (test x.0) refl (cut v w h.1 s.1)
      where
        by : (b : Bool) → test x.0 ≡ b → Cut v → Cut (a ∷ v)
        by true e c = record {
          first = a ∷ c.first;
          second = c.second;
          whole = ap (λ z. a ∷ z) c.whole;
          first_kept = (sym (at_number-is kept a.0 x.0 h.0.0) ∙ e, c.first_kept);
          second_kept = c.second_kept;
          numbers = c.numbers;
          have = c.have;
          sorted = c.sorted;
        }
        by false e c = record {
          first = [];
          second = a ∷ v;
          whole = refl;
          first_kept = tt;
          second_kept = others;
          numbers = x ∷ w;
          have = h;
          sorted = rising (a ∷ v) (x ∷ w) h others s;
        }
          where
            others : AllGive S kept false (a ∷ v)
            others = (sym (at_number-is kept a.0 x.0 h.0.0) ∙ e, none_passes x.0 v w e h.1 s.0)

  pub positive_parts : (u v : RootLetters S) → AllPositive S (u ++ v) → AllPositive S u × AllPositive S v
  positive_parts [] v h = (tt, h)
  positive_parts (a ∷ u) v h = let p = positive_parts u v h.1 in ((h.0, p.0), p.1)

  -- the word collected in the order in which the roots that pass come first, cut behind them
  pub record IsCut (kept : RootName d → Bool) (v : RootLetters S) : Type 0 where
    pub all : RootLetters S
    pub parts : Cut kept all
    pub first_positive : AllPositive S parts.first
    pub second_positive : AllPositive S parts.second
    pub joined : Joined S (xs_word S v) (xs_word S parts.first ++ xs_word S parts.second)

  pub cut_of : (kept : RootName d → Bool) (v : RootLetters S) → AllPositive S v → IsCut kept v
  cut_of kept v h =
      let R = field_ring f.field in
      let terms = positive_terms f.constants in
      let collectable = subst (λ n. AreCollectable n terms) lawful.constants.0 (table_collectable d lawful.loaded f.constants lawful.constants) in
      let w = numbered v in
      let l = numbered-lawful v in
      let order = kept_first_order (at_number kept) in
      let e = ends R m terms collectable (kept_first (at_number kept)) order w l.1 in
      let over = ends_joined R (field_is_ring f.field) m terms collectable (kept_first (at_number kept)) e.1 l.0 l.1 in
      let chain = joined_over_ring f lawful w e.0 over.0 (IsWordOver-ring f w l) in
      let left : chain.left ≡ xs_word S v = words_same f chain.left (xs_word S v) (chain.left_spelled ∙ sym (numbered-spelled v h)) in
      let right = letters_of chain.right e.0 chain.right_spelled in
      let c = cut kept right.0 e.0 right.2 (ends_sorted (kept_first (at_number kept)) order R terms e.1) in
      let parts = positive_parts c.first c.second (subst (AllPositive S) c.whole (positive_letters right.0 e.0 right.2)) in
      let whole : chain.right ≡ xs_word S c.first ++ xs_word S c.second = right.1 ∙ ap (xs_word S) c.whole ∙ xs-append S c.first c.second in
      record {
        all = right.0;
        parts = c;
        first_positive = parts.0;
        second_positive = parts.1;
        joined = subst (λ y. Joined S y (xs_word S c.first ++ xs_word S c.second)) left (subst (Joined S chain.left) whole chain.joined);
      }

  -- and so each word is split by each test
  pub frame_splits : (sign : Sign S) → Splits S sign
  frame_splits sign kept v h =
      let c = cut_of kept v h in
      record {
        first = c.parts.first;
        second = c.parts.second;
        first_positive = c.first_positive;
        second_positive = c.second_positive;
        first_kept = c.parts.first_kept;
        second_kept = c.parts.second_kept;
        joined = λ z.
            subst (λ y. GroupJoined S sign (xs_word S v ++ z) y) (append_assoc (xs_word S c.parts.first) (xs_word S c.parts.second) z)
            (before z (grouped sign c.joined));
      }
