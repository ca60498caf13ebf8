-- The rules of the `n_i` with the torus and with the root letters.
use Rattle.std.proofs.Common.{◌≡◌, List, [], ◌∷◌, ◌++◌}
use Rattle.lie_letters.specs.Setting.{Setting}
use Rattle.lie_letters.specs.Laws.{Laws}
use Rattle.lie_letters.specs.Letters.{Word, X, H, N, Ninv}
use Rattle.lie_bruhat.specs.WeylWords.{n_word, carried, carried_sign, reflect_torus}
use Rattle.lie_letters.specs.Relations.{S4}
use Rattle.lie_letters.specs.SignedFrames.{Sign}
use Rattle.lie_letters.specs.GroupRelations.{plain, S6, S7, GroupJoined}
use Rattle.lie_letters.specs.Chains.{same}
use Rattle.lie_letters.proofs.ChainLemmas.{flip}
use Rattle.lie_bruhat.proofs.FieldLemmas
use Rattle.lie_bruhat.proofs.RuleLemmas.{at_front, cons, walk}
use Rattle.lie_bruhat.proofs.RuleLemmas

module _ (S : Setting) (sign : Sign S) (laws : Laws S) where
  -- minus one at the coroot of i
  abbrev pub minus : S.Index → S.Torus
  minus i = S.coroot i (S.neg S.one)

  minus_nonzero : ¬ (S.neg S.one ≡ S.zero)
  minus_nonzero = FieldLemmas.neg_nonzero S laws S.one laws.one_not_zero

  pub ninv_ninv : (i : S.Index) (w : Word S) → GroupJoined S sign (Ninv i ∷ Ninv i ∷ w) (H (minus i) ∷ w)
  ninv_ninv i w =
      grw (walk, RuleLemmas.ninv_open S sign laws i w, RuleLemmas.ninv_open S sign laws i)
      (rw (FieldLemmas.inv_minus_one S laws, FieldLemmas.neg_neg S laws S.one) at (at_front {sign = sign} (S6 i (S.neg S.one) minus_nonzero) w))

  pub minus_minus : (i : S.Index) (w : Word S) → GroupJoined S sign (H (minus i) ∷ H (minus i) ∷ w) w
  minus_minus i w = grw (walk, RuleLemmas.torus_merge S sign laws)
      (rw (
        ← laws.coroot_mul i (S.neg S.one) (S.neg S.one) minus_nonzero minus_nonzero,
        FieldLemmas.minus_one_squared S laws,
        laws.coroot_one i,
      )
      (RuleLemmas.torus_drop S sign laws w))

  -- n_i' = h(a_i∨(-1)) n_i
  pub ninv_is : (i : S.Index) (w : Word S) → GroupJoined S sign (Ninv i ∷ w) (H (minus i) ∷ N i ∷ w)
  ninv_is i w = grw (walk, ← ninv_ninv i (N i ∷ w), ← flip (RuleLemmas.ninv_n S sign laws i w)) same

  -- n_i n_i = h(a_i∨(-1))
  pub n_n : (i : S.Index) (w : Word S) → GroupJoined S sign (N i ∷ N i ∷ w) (H (minus i) ∷ w)
  n_n i w = grw (walk, flip (minus_minus i (N i ∷ N i ∷ w)), flip (ninv_is i (N i ∷ w)), RuleLemmas.ninv_n S sign laws i w) same

  pub h_x : (t : S.Torus) (r : S.Root) (a : S.Elem) (w : Word S)
      → GroupJoined S sign (H t ∷ X r a ∷ w) (X r (S.mul (S.character r t) a) ∷ H t ∷ w)
  h_x t r a w = at_front (plain (S4 t r a)) w

  pub n_x : (i : S.Index) (s : S.Root) (a : S.Elem) (w : Word S)
      → GroupJoined S sign (N i ∷ X s a ∷ w) (X (S.reflect i s) (S.mul (sign i s) a) ∷ N i ∷ w)
  n_x i s a w = at_front (S7 i s a) w

  -- h(t) n_i = h(a_i∨(a_i(t))) n_i h(t)
  pub h_n : (i : S.Index) (t : S.Torus) (w : Word S)
      → GroupJoined S sign (H t ∷ N i ∷ w) (H (S.coroot i (S.character (S.simple i) t)) ∷ N i ∷ H t ∷ w)
  h_n i t w =
      let c = S.character (S.simple i) t in
      let first : S.mul c S.one ≡ c = laws.mul_one c in
      let second : S.mul (S.character (S.opposite (S.simple i)) t) (S.neg S.one) ≡ S.neg (S.inv c) =
      rw (laws.character_opposite (S.simple i) t, FieldLemmas.mul_neg S laws (S.inv c) S.one, laws.mul_one (S.inv c)) in
      grw (walk, RuleLemmas.n_open S sign laws, h_x, h_x, h_x)
      (rw (first, second) (RuleLemmas.bent_is S sign laws i c (H t ∷ w) (laws.character_nonzero (S.simple i) t)))

  pub torus_cancel_left : (t : S.Torus) (w : Word S) → GroupJoined S sign (H (S.torus_inv t) ∷ H t ∷ w) w
  torus_cancel_left t w = grw (walk, RuleLemmas.torus_merge S sign laws)
      (rw (laws.torus_comm (S.torus_inv t) t, laws.torus_mul_inv t) (RuleLemmas.torus_drop S sign laws w))

  -- n_i h(t) = h(s_i t) n_i
  pub n_h : (i : S.Index) (t : S.Torus) (w : Word S) → GroupJoined S sign (N i ∷ H t ∷ w) (H (reflect_torus S i t) ∷ N i ∷ w)
  n_h i t w =
      let k = S.coroot i (S.character (S.simple i) t) in
      grw (walk, flip (torus_cancel_left k (N i ∷ H t ∷ w)), flip (h_n i t w), RuleLemmas.torus_merge S sign laws)
      (rw (laws.torus_comm (S.torus_inv k) t) same)

  -- x_-i(c) = x_i(1/c) h(a_i∨(-1/c)) n_i x_i(1/c)
  pub opposite_is : (i : S.Index) (c : S.Elem) (w : Word S) → ¬ (c ≡ S.zero) → GroupJoined S sign
      (X (S.opposite (S.simple i)) c ∷ w)
      (X (S.simple i) (S.inv c) ∷ H (S.coroot i (S.neg (S.inv c))) ∷ N i ∷ X (S.simple i) (S.inv c) ∷ w)
  opposite_is i c w nonzero =
      let a = S.inv c in
      let a_nonzero : ¬ (a ≡ S.zero) = FieldLemmas.inv_nonzero S laws c nonzero in
      let b_nonzero : ¬ (S.neg a ≡ S.zero) = FieldLemmas.neg_nonzero S laws a a_nonzero in
      let back : S.neg (S.inv (S.neg a)) ≡ c =
      rw (FieldLemmas.inv_neg S laws a a_nonzero, FieldLemmas.neg_neg S laws (S.inv a), FieldLemmas.inv_inv S laws c nonzero) in
      let bent = rw back at (RuleLemmas.bent_is S sign laws i (S.neg a) (X (S.simple i) a ∷ w) b_nonzero) in
      grw (
        walk,
        flip (RuleLemmas.cancel S sign laws (S.simple i) a (X (S.opposite (S.simple i)) c ∷ w)),
        flip (RuleLemmas.cancel_left S sign laws (S.simple i) a w),
        bent,
      ) same

  -- n along a list, past a root letter
  pub carry : (p : List S.Index) (s : S.Root) (a : S.Elem) (w : Word S)
      → GroupJoined S sign (n_word S p ++ (X s a ∷ w)) (X (carried S p s) (S.mul (carried_sign S sign p s) a) ∷ (n_word S p ++ w))
  carry [] s a w = rw (FieldLemmas.one_mul S laws a) same
  carry (i ∷ p) s a w = grw (walk, carry p s a w, n_x i (carried S p s) (S.mul (carried_sign S sign p s) a) (n_word S p ++ w)) (rw (← laws.mul_assoc (sign i (carried S p s)) (carried_sign S sign p s) a) same)
