-- What words and relations speak of: the elements of a field, roots, a torus, and the terms of commutators.
-- Own: the operations alone, on types whose values cannot be out of range; `specs/Laws.antt` has the laws that they keep.
--
--   r, s, -r                 S.Root, S.opposite r
--   a_i, s_i r               S.simple i, S.reflect i r        i is a simple index, S.Index
--   a_i^(a)                  S.coroot i a                     the simple coroot at an element
--   r(t)                     S.character r t                  the root at a torus vector
--   (i, j, i r + j s, C_ijrs)                                 a member of S.terms r s
use Rattle.std.specs.Prelude.{ℕ, List, Bool}

-- a term of the commutator of two roots r and s: exponents i and j, the root i r + j s, and C_ijrs read in the field
pub record Term (Root Elem : Type 0) : Type 0 where
  pub i : ℕ
  pub j : ℕ
  pub root : Root
  pub value : Elem

-- the operations, with no law of them
pub record Setting : Type 1 where
  -- the field
  pub Elem : Type 0
  pub zero : Elem
  pub one : Elem
  pub add : Elem → Elem → Elem
  pub neg : Elem → Elem
  pub mul : Elem → Elem → Elem
  pub inv : Elem → Elem
  -- the roots and the simple indices
  pub Root : Type 0
  pub Index : Type 0
  pub opposite : Root → Root
  pub simple : Index → Root
  pub reflect : Index → Root → Root
  pub Before : Root → Root → Type 0
  -- r_1 .. r_m in order, and whether a root is negative
  pub positives : List Root
  pub is_negative : Root → Bool
  -- the torus
  pub Torus : Type 0
  pub torus_one : Torus
  pub torus_mul : Torus → Torus → Torus
  pub torus_inv : Torus → Torus
  pub coroot : Index → Elem → Torus
  pub character : Root → Torus → Elem
  -- the terms of the commutator of two roots
  pub terms : Root → Root → List (Term Root Elem)
