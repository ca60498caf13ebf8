-- The relations S0 to S4 between words, each as a pair of words, and words that are joined by them.
-- Source: Steinberg, Lectures on Chevalley Groups, 6 (generators and relations). Own: the list of relations and their names, S0 to S4.
use Rattle.std.specs.Prelude.{◌≡◌, ℕ, zero, suc, List, [], ◌∷◌, map}
use Rattle.lie_letters.specs.Chains.{JoinedBy}
use Rattle.lie_letters.specs.Setting.{Setting, Term}
use Rattle.lie_letters.specs.Letters.{Word, X, H}

-- a^n
abbrev pub power : (S : Setting) → S.Elem → ℕ → S.Elem
power S a zero = S.one
power S a (suc n) = S.mul (power S a n) a

-- the letters x_(ir+js)(C_ijrs (-t)^i u^j) of the terms of r and s, in their order
abbrev pub term_letters : (S : Setting) → List (Term S.Root S.Elem) → S.Elem → S.Elem → Word S
term_letters S cs t u = map (λ c. X c.root (S.mul c.value (S.mul (power S (S.neg t) c.i) (power S u c.j)))) cs

-- the two sides of a relation
pub data Relation (S : Setting) : Word S → Word S → Type 0 where
  -- `x_r(0)` = empty
  S0-root : (r : S.Root) → Relation S (X r S.zero ∷ []) []
  -- `h(1,..,1)` = empty
  S0-torus : Relation S (H S.torus_one ∷ []) []
  -- `x_r(a) x_r(b) = x_r(a+b)`
  S1 : (r : S.Root) (a b : S.Elem) → Relation S (X r a ∷ X r b ∷ []) (X r (S.add a b) ∷ [])
  -- `x_s(u) x_r(t) = x_r(t) x_s(u)` times the letters of the terms, for r before s, s not -r
  S2 : (r s : S.Root) (t u : S.Elem) → S.Before r s → ¬ (s ≡ S.opposite r)
      → Relation S (X s u ∷ X r t ∷ []) (X r t ∷ X s u ∷ term_letters S (S.terms r s) t u)
  -- `h(t) h(u) = h(tu)`
  S3 : (t u : S.Torus) → Relation S (H t ∷ H u ∷ []) (H (S.torus_mul t u) ∷ [])
  -- `h(t) x_r(a) = x_r(r(t) a) h(t)`
  S4 : (t : S.Torus) (r : S.Root) (a : S.Elem) → Relation S (H t ∷ X r a ∷ []) (X r (S.mul (S.character r t) a) ∷ H t ∷ [])

-- a chain leads from one word to the other
abbrev pub Joined : (S : Setting) → Word S → Word S → Type 0
Joined S = JoinedBy (Relation S)
