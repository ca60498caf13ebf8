-- Moving torus letters and root letters past `n` along a word.
use Rattle.std.proofs.Common.{List, [], ◌∷◌, ◌++◌}
use Rattle.lie_letters.specs.Setting.{Setting}
use Rattle.lie_letters.specs.Laws.{Laws}
use Rattle.lie_letters.specs.Letters.{Word, X, H, N}
use Rattle.lie_bruhat.specs.WeylWords.{n_word, carried, carried_sign, moved_torus}
use Rattle.lie_letters.specs.SignedFrames.{Sign}
use Rattle.lie_letters.specs.GroupRelations.{GroupJoined}
use Rattle.lie_letters.specs.Chains.{same}
use Rattle.lie_letters.proofs.ChainLemmas.{trans}
use Rattle.lie_bruhat.proofs.RuleLemmas.{cons}
use Rattle.lie_bruhat.proofs.WeylLetterLemmas

-- root letters alone: a list of roots and elements
abbrev pub xs_word : (S : Setting) → List (S.Root × S.Elem) → Word S
xs_word S [] = []
xs_word S (a ∷ u) = X a.0 a.1 ∷ xs_word S u

-- the letters after n along p, and after a torus vector
abbrev pub moved_xs : (S : Setting) → Sign S → List S.Index → List (S.Root × S.Elem) → List (S.Root × S.Elem)
moved_xs S sign p [] = []
moved_xs S sign p (a ∷ u) = (carried S p a.0, S.mul (carried_sign S sign p a.0) a.1) ∷ moved_xs S sign p u

abbrev pub scaled_xs : (S : Setting) → S.Torus → List (S.Root × S.Elem) → List (S.Root × S.Elem)
scaled_xs S t [] = []
scaled_xs S t (a ∷ u) = (a.0, S.mul (S.character a.0 t) a.1) ∷ scaled_xs S t u

module _ (S : Setting) (sign : Sign S) (laws : Laws S) where
  pub n_past_torus : (p : List S.Index) (t : S.Torus) (w : Word S)
      → GroupJoined S sign (n_word S p ++ (H t ∷ w)) (H (moved_torus S p t) ∷ (n_word S p ++ w))
  n_past_torus [] t w = same
  n_past_torus (i ∷ p) t w = trans (cons (N i) (n_past_torus p t w)) (WeylLetterLemmas.n_h S sign laws i (moved_torus S p t) (n_word S p ++ w))

  pub n_past_roots : (p : List S.Index) (u : List (S.Root × S.Elem)) (w : Word S)
      → GroupJoined S sign (n_word S p ++ (xs_word S u ++ w)) (xs_word S (moved_xs S sign p u) ++ (n_word S p ++ w))
  n_past_roots p [] w = same
  n_past_roots p (a ∷ u) w = trans (WeylLetterLemmas.carry S sign laws p a.0 a.1 (xs_word S u ++ w)) (cons _ (n_past_roots p u w))

  pub torus_past_roots : (t : S.Torus) (u : List (S.Root × S.Elem)) (w : Word S)
      → GroupJoined S sign (H t ∷ (xs_word S u ++ w)) (xs_word S (scaled_xs S t u) ++ (H t ∷ w))
  torus_past_roots t [] w = same
  torus_past_roots t (a ∷ u) w = trans (WeylLetterLemmas.h_x S sign laws t a.0 a.1 (xs_word S u ++ w)) (cons _ (torus_past_roots t u w))

  -- the step of the Bruhat product at roots that w leaves positive:
  -- h n_w (left right) = (left moved to the front) h n_w right
  pub roots_to_front : (t : S.Torus) (p : List S.Index) (left : List (S.Root × S.Elem)) (w : Word S)
      → GroupJoined S sign (H t ∷ (n_word S p ++ (xs_word S left ++ w)))
      (xs_word S (scaled_xs S t (moved_xs S sign p left)) ++ (H t ∷ (n_word S p ++ w)))
  roots_to_front t p left w =
      trans (cons (H t) (n_past_roots p left w)) (torus_past_roots t (moved_xs S sign p left) (n_word S p ++ w))
