-- Words of positive root letters, split by a test of their roots; a letter of a simple root taken to the front or to the end.
use Rattle.std.proofs.Common.{◌≡◌, [], ◌∷◌, ◌++◌, Bool, true, false, not, refl, sym, subst, ◌⊎◌, inl, inr}
use Rattle.lie_letters.specs.Setting.{Setting}
use Rattle.lie_letters.specs.Laws.{Laws}
use Rattle.lie_letters.specs.Letters.{Word, X}
use Rattle.lie_letters.specs.SignedFrames.{Sign}
use Rattle.lie_letters.specs.GroupRelations.{GroupJoined}
use Rattle.lie_letters.proofs.ChainLemmas.{trans, flip, behind}
use Rattle.lie_bruhat.proofs.RuleLemmas.{cons}
use Rattle.lie_bruhat.proofs.RuleLemmas
use Rattle.lie_bruhat.proofs.MoveLemmas.{xs_word}
use Rattle.lie_bruhat.proofs.ShapeLemmas.{RootLetters, AllPositive, Without}

-- the test gives b at each root of the list
abbrev pub AllGive : (S : Setting) → (S.Root → Bool) → Bool → RootLetters S → Type 0
AllGive S kept b [] = Unit {0}
AllGive S kept b (a ∷ v) = (kept a.0 ≡ b) × AllGive S kept b v

-- a word of positive root letters, and its two parts by a test
pub record SplitBy (S : Setting) (sign : Sign S) (kept : S.Root → Bool) (v : RootLetters S) : Type 0 where
  pub first : RootLetters S
  pub second : RootLetters S
  pub first_positive : AllPositive S first
  pub second_positive : AllPositive S second
  pub first_kept : AllGive S kept true first
  pub second_kept : AllGive S kept false second
  pub joined : (w : Word S) → GroupJoined S sign (xs_word S v ++ w) (xs_word S first ++ (xs_word S second ++ w))

-- each word of positive root letters is split by each test
abbrev pub Splits : (S : Setting) → Sign S → Type 0
Splits S sign = (kept : S.Root → Bool) (v : RootLetters S) → AllPositive S v → SplitBy S sign kept v

module _ (S : Setting) (sign : Sign S) (laws : Laws S) (same_root : (r s : S.Root) → (r ≡ s) ⊎ (¬ (r ≡ s))) where
  -- whether a root is r
  abbrev is : S.Root → S.Root → Bool
  is r s = elim (same_root s r) [ inl e ↦ true | inr n ↦ false ]

  is-true : (r s : S.Root) → is r s ≡ true → s ≡ r
  is-true r s = by (same_root s r)
    where
      by : (d : (s ≡ r) ⊎ (¬ (s ≡ r))) → elim d [ inl e ↦ true | inr n ↦ false ] ≡ true → s ≡ r
      by (inl e) h = e
      by (inr n) h = cc

  is-false : (r s : S.Root) → is r s ≡ false → ¬ (s ≡ r)
  is-false r s = by (same_root s r)
    where
      by : (d : (s ≡ r) ⊎ (¬ (s ≡ r))) → elim d [ inl e ↦ true | inr n ↦ false ] ≡ false → ¬ (s ≡ r)
      by (inl e) h = cc
      by (inr n) h = n

  -- letters at one root are one letter
  gathered : (r : S.Root) (v : RootLetters S) → AllGive S (is r) true v → (c : S.Elem) × ((w : Word S) → GroupJoined S sign (xs_word S v ++ w) (X r c ∷ w))
  gathered r [] h = (S.zero, λ w. flip (RuleLemmas.drop_zero S sign laws r w))
  gathered r (a ∷ v) h =
      let (c, d) = gathered r v h.1 in (
        S.add a.1 c,
        λ w. trans (cons (X a.0 a.1) (d w))
            (subst (λ s. GroupJoined S sign (X s a.1 ∷ X r c ∷ w) (X r (S.add a.1 c) ∷ w)) (sym (is-true r a.0 h.0)) (RuleLemmas.merge S sign laws r a.1 c w)),
      )

  without : (r : S.Root) (v : RootLetters S) → AllGive S (is r) false v → Without S r v
  without r [] h = tt
  without r (a ∷ v) h = (is-false r a.0 h.0, without r v h.1)

  -- a letter at the root r first
  pub split_first : Splits S sign → (r : S.Root) (v : RootLetters S) → AllPositive S v
      → (c : S.Elem) × (v' : RootLetters S) × AllPositive S v' × Without S r v'
      × ((w : Word S) → GroupJoined S sign (xs_word S v ++ w) (X r c ∷ (xs_word S v' ++ w)))
  split_first splits r v h =
      let s = splits (is r) v h in
      let (c, d) = gathered r s.first s.first_kept in
      (c, s.second, s.second_positive, without r s.second s.second_kept, λ w. trans (s.joined w) (d (xs_word S s.second ++ w)))

  opposite_test : (r : S.Root) (v : RootLetters S) (b : Bool) → AllGive S (λ s. not (is r s)) b v → AllGive S (is r) (not b) v
  opposite_test r [] b h = tt
  opposite_test r (a ∷ v) b h = (turn (is r a.0) b h.0, opposite_test r v b h.1)
    where
      turn : (x y : Bool) → not x ≡ y → x ≡ not y
      turn true true e = cc
      turn true false e = refl
      turn false true e = refl
      turn false false e = cc

  -- and last
  pub split_last : Splits S sign → (r : S.Root) (v : RootLetters S) → AllPositive S v
      → (c : S.Elem) × (v' : RootLetters S) × AllPositive S v' × Without S r v'
      × ((w : Word S) → GroupJoined S sign (xs_word S v ++ w) (xs_word S v' ++ (X r c ∷ w)))
  split_last splits r v h =
      let s = splits (λ q. not (is r q)) v h in
      let (c, d) = gathered r s.second (opposite_test r s.second false s.second_kept) in
      (c, s.first, s.first_positive, without r s.first (opposite_test r s.first true s.first_kept), λ w. trans (s.joined w) (behind (xs_word S s.first) (d w)))
