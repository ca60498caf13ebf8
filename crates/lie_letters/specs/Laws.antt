-- The laws of a field, of the torus, and of roots at torus vectors, as far as words need them.
-- Source: Lang, Algebra, II.1 (fields); Carter, Simple Groups of Lie Type, 7.1 (characters of the diagonal subgroup).
use Rattle.std.specs.Prelude.{◌≡◌}
use Rattle.lie_letters.specs.Setting.{Setting}

-- what the operations of a setting keep
pub record Laws (S : Setting) : Type 0 where
  -- the elements are a field
  pub add_assoc : (a b c : S.Elem) → S.add (S.add a b) c ≡ S.add a (S.add b c)
  pub add_comm : (a b : S.Elem) → S.add a b ≡ S.add b a
  pub add_zero : (a : S.Elem) → S.add a S.zero ≡ a
  pub add_neg : (a : S.Elem) → S.add a (S.neg a) ≡ S.zero
  pub mul_assoc : (a b c : S.Elem) → S.mul (S.mul a b) c ≡ S.mul a (S.mul b c)
  pub mul_comm : (a b : S.Elem) → S.mul a b ≡ S.mul b a
  pub mul_one : (a : S.Elem) → S.mul a S.one ≡ a
  pub mul_add : (a b c : S.Elem) → S.mul a (S.add b c) ≡ S.add (S.mul a b) (S.mul a c)
  pub mul_inv : (a : S.Elem) → ¬ (a ≡ S.zero) → S.mul a (S.inv a) ≡ S.one
  pub one_not_zero : ¬ (S.one ≡ S.zero)
  -- the torus is a commutative group
  pub torus_assoc : (t u v : S.Torus) → S.torus_mul (S.torus_mul t u) v ≡ S.torus_mul t (S.torus_mul u v)
  pub torus_comm : (t u : S.Torus) → S.torus_mul t u ≡ S.torus_mul u t
  pub torus_mul_one : (t : S.Torus) → S.torus_mul t S.torus_one ≡ t
  pub torus_mul_inv : (t : S.Torus) → S.torus_mul t (S.torus_inv t) ≡ S.torus_one
  -- simple coroots respect products
  pub coroot_mul : (i : S.Index) (a b : S.Elem) → ¬ (a ≡ S.zero) → ¬ (b ≡ S.zero) → S.coroot i (S.mul a b) ≡ S.torus_mul (S.coroot i a) (S.coroot i b)
  pub coroot_one : (i : S.Index) → S.coroot i S.one ≡ S.torus_one
  -- roots respect products, are not 0, and opposite roots are inverse
  pub character_mul : (r : S.Root) (t u : S.Torus) → S.character r (S.torus_mul t u) ≡ S.mul (S.character r t) (S.character r u)
  pub character_one : (r : S.Root) → S.character r S.torus_one ≡ S.one
  pub character_nonzero : (r : S.Root) (t : S.Torus) → ¬ (S.character r t ≡ S.zero)
  pub character_opposite : (r : S.Root) (t : S.Torus) → S.character (S.opposite r) t ≡ S.inv (S.character r t)
  -- the opposite of the opposite, and reflections of opposite roots
  pub opposite_twice : (r : S.Root) → S.opposite (S.opposite r) ≡ r
  pub reflect_opposite : (i : S.Index) (r : S.Root) → S.reflect i (S.opposite r) ≡ S.opposite (S.reflect i r)
