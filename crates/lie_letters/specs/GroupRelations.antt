-- All relations between words, those of the letters `n_i` included, and words that are joined by them.
-- Source: Steinberg, Lectures on Chevalley Groups, 6 (generators and relations); Carter, Simple Groups of Lie Type, chapters 6 and 7 (x_r(t), n_r and h_r(t)).
-- Own: the list of relations and their names, S0 to S7; S5 to S7 alone speak of signs and Weyl letters.
--
--   a_i, -a_i                S.simple i, S.opposite (S.simple i)     the roots of x_i and x_-i
--   a_i^(t)                  S.coroot i t                            the simple coroot at an element
--   s_i s                    S.reflect i s
--   eta_is                   sign i s
--   u and v are joined       GroupJoined S sign u v
use Rattle.std.specs.Prelude.{◌≡◌, [], ◌∷◌}
use Rattle.lie_letters.specs.Chains.{JoinedBy}
use Rattle.lie_letters.specs.Setting.{Setting}
use Rattle.lie_letters.specs.Letters.{Word, X, H, N, Ninv}
use Rattle.lie_letters.specs.Relations.{Relation}
use Rattle.lie_letters.specs.SignedFrames.{Sign}

-- the two sides of a relation
pub data GroupRelation (S : Setting) (sign : Sign S) : Word S → Word S → Type 0 where
  -- S0 to S4
  plain : {l r : Word S} → Relation S l r → GroupRelation S sign l r
  -- `n_i = x_i(1) x_-i(-1) x_i(1)`
  S5 : (i : S.Index)
      → GroupRelation S sign (N i ∷ []) (X (S.simple i) S.one ∷ X (S.opposite (S.simple i)) (S.neg S.one) ∷ X (S.simple i) S.one ∷ [])
  -- `n_i' = x_i(-1) x_-i(1) x_i(-1)`
  S5-inverse : (i : S.Index)
      → GroupRelation S sign (Ninv i ∷ []) (X (S.simple i) (S.neg S.one) ∷ X (S.opposite (S.simple i)) S.one ∷ X (S.simple i) (S.neg S.one) ∷ [])
  -- `x_i(t) x_-i(-1/t) x_i(t) x_i(-1) x_-i(1) x_i(-1) = h(a_i^(t))`, for t not 0
  S6 : (i : S.Index) (t : S.Elem) → ¬ (t ≡ S.zero)
      → GroupRelation S sign
      (X (S.simple i) t ∷ X (S.opposite (S.simple i)) (S.neg (S.inv t)) ∷ X (S.simple i) t
      ∷ X (S.simple i) (S.neg S.one) ∷ X (S.opposite (S.simple i)) S.one ∷ X (S.simple i) (S.neg S.one) ∷ [])
      (H (S.coroot i t) ∷ [])
  -- `n_i x_s(a) = x_(s_i s)(eta_is a) n_i`
  S7 : (i : S.Index) (s : S.Root) (a : S.Elem)
      → GroupRelation S sign (N i ∷ X s a ∷ []) (X (S.reflect i s) (S.mul (sign i s) a) ∷ N i ∷ [])

-- a chain by all relations leads from one word to the other
abbrev pub GroupJoined : (S : Setting) → Sign S → Word S → Word S → Type 0
GroupJoined S sign = JoinedBy (GroupRelation S sign)
