-- The rules that follow from the relations.
use Rattle.std.proofs.Common.{◌≡◌, List, [], ◌∷◌, ◌++◌, append_assoc}
use Rattle.lie_letters.specs.Setting.{Setting}
use Rattle.lie_letters.specs.Laws.{Laws}
use Rattle.lie_letters.specs.Letters.{Letter, Word, X, H, N, Ninv}
use Rattle.lie_bruhat.specs.WeylWords.{inverted, reversed}
use Rattle.lie_letters.specs.Relations.{S0-root, S0-torus, S1, S3}
use Rattle.lie_letters.specs.SignedFrames.{Sign}
use Rattle.lie_letters.specs.GroupRelations.{GroupRelation, plain, S5, S5-inverse, S6, GroupJoined}
use Rattle.lie_letters.specs.Chains.{JoinedBy, forward, same}
use Rattle.lie_letters.proofs.ChainLemmas.{one_step, trans, flip, behind, before, both}

-- a letter before both words
pub cons : {A : Type 0} {R : List A → List A → Type 0} (a : A) {u v : List A} → JoinedBy R u v → JoinedBy R (a ∷ u) (a ∷ v)
cons a d = behind (a ∷ []) d

module _ {S : Setting} {sign : Sign S} where
  -- a relation at the front of a word
  pub at_front : {l r : Word S} → GroupRelation S sign l r → (w : Word S) → GroupJoined S sign (l ++ w) (r ++ w)
  at_front e w = one_step (forward [] w e)

pub ruleset walk = (trans, cons)

-- the relations at the front of a word
module _ (S : Setting) (sign : Sign S) (laws : Laws S) where
  pub merge : (r : S.Root) (a b : S.Elem) (w : Word S) → GroupJoined S sign (X r a ∷ X r b ∷ w) (X r (S.add a b) ∷ w)
  merge r a b w = at_front (plain (S1 r a b)) w

  pub drop_zero : (r : S.Root) (w : Word S) → GroupJoined S sign (X r S.zero ∷ w) w
  drop_zero r w = at_front (plain (S0-root r)) w

  pub cancel : (r : S.Root) (a : S.Elem) (w : Word S) → GroupJoined S sign (X r a ∷ X r (S.neg a) ∷ w) w
  cancel r a w = grw (walk, merge r a (S.neg a) w) (rw (laws.add_neg a) (drop_zero r w))

  pub cancel_one : (r : S.Root) (w : Word S) → GroupJoined S sign (X r (S.neg S.one) ∷ X r S.one ∷ w) w
  cancel_one r w = grw (walk, merge) (rw (laws.add_comm, laws.add_neg) (drop_zero r w))

  pub cancel_left : (r : S.Root) (a : S.Elem) (w : Word S) → GroupJoined S sign (X r (S.neg a) ∷ X r a ∷ w) w
  cancel_left r a w = grw (walk, merge) (rw (laws.add_comm, laws.add_neg) (drop_zero r w))

  pub n_open : (i : S.Index) (w : Word S) → GroupJoined S sign (N i ∷ w)
      (X (S.simple i) S.one ∷ X (S.opposite (S.simple i)) (S.neg S.one) ∷ X (S.simple i) S.one ∷ w)
  n_open i w = at_front (S5 i) w

  pub ninv_open : (i : S.Index) (w : Word S) → GroupJoined S sign (Ninv i ∷ w)
      (X (S.simple i) (S.neg S.one) ∷ X (S.opposite (S.simple i)) S.one ∷ X (S.simple i) (S.neg S.one) ∷ w)
  ninv_open i w = at_front (S5-inverse i) w

  pub n_ninv : (i : S.Index) (w : Word S) → GroupJoined S sign (N i ∷ Ninv i ∷ w) w
  n_ninv i w = grw (walk, n_open, ninv_open, cancel, cancel_one, cancel) same

  pub ninv_n : (i : S.Index) (w : Word S) → GroupJoined S sign (Ninv i ∷ N i ∷ w) w
  ninv_n i w = grw (walk, n_open, ninv_open, cancel_one, cancel, cancel_one) same

  pub torus_merge : (t u : S.Torus) (w : Word S) → GroupJoined S sign (H t ∷ H u ∷ w) (H (S.torus_mul t u) ∷ w)
  torus_merge t u w = at_front (plain (S3 t u)) w

  pub torus_split : (t u : S.Torus) (w : Word S) → GroupJoined S sign (H (S.torus_mul t u) ∷ w) (H t ∷ H u ∷ w)
  torus_split t u w = flip (torus_merge t u w)

  pub torus_drop : (w : Word S) → GroupJoined S sign (H S.torus_one ∷ w) w
  torus_drop w = at_front (plain S0-torus) w

  pub torus_cancel : (t : S.Torus) (w : Word S) → GroupJoined S sign (H t ∷ H (S.torus_inv t) ∷ w) w
  torus_cancel t w = grw (walk, torus_merge) (rw laws.torus_mul_inv (torus_drop w))

  -- a letter and its inverse
  pub letter_cancel : (a : Letter S) (w : Word S) → GroupJoined S sign (a ∷ inverted a ∷ w) w
  letter_cancel (X r a) w = cancel r a w
  letter_cancel (H t) w = torus_cancel t w
  letter_cancel (N i) w = n_ninv i w
  letter_cancel (Ninv i) w = ninv_n i w

  -- a word and its reversed word
  pub reversed_cancel : (u w : Word S) → GroupJoined S sign (u ++ (reversed u ++ w)) w
  reversed_cancel [] w = same
  reversed_cancel (a ∷ u) w =
      trans (cons a (rw (append_assoc (reversed u) (inverted a ∷ []) w) (reversed_cancel u (inverted a ∷ w))))
      (letter_cancel a w)

  -- `x_i(t) x_-i(-1/t) x_i(t)`, of which S6 speaks, is `h(t) n_i`
  pub bent_is : (i : S.Index) (t : S.Elem) (w : Word S) → ¬ (t ≡ S.zero) → GroupJoined S sign
      (X (S.simple i) t ∷ X (S.opposite (S.simple i)) (S.neg (S.inv t)) ∷ X (S.simple i) t ∷ w)
      (H (S.coroot i t) ∷ N i ∷ w)
  bent_is i t w nonzero =
      grw (walk, ← at_front {sign = sign} (S6 i t nonzero) (N i ∷ w), ← ninv_open i (N i ∷ w), ← flip (ninv_n i w)) same
