-- The relations that a module is audited for: equations between products of matrices, over a ring with an invertible t and with u.
-- Source: Steinberg, Lectures on Chevalley Groups, 6 (generators and relations), of which these are the relations S1, S2, S6 and S7.
-- Own: the list of the relations and its order; the sizes, which bound what is met where the two sides are multiplied out.
--
--   t^e, u                       y.t_to e, y.u                   y : Variables A; over the Laurent polynomials, their own t and u
--   X_r(f)                       RootElement r f                 r is a signed number
--   N_i, N_i^-1                  weyl_factors, inverse_factors   X_i(1) X_-i(-1) X_i(1), and X_i(-1) X_-i(1) X_i(-1)
--   a_i^(t)                      CorootElement i                 t^<x, a_i^> on the diagonal, for the weight x of each basis vector
--   the two sides                left_side, right_side           products of factors, for a relation q
--   S1 r                         X_r(t) X_r(u) = X_r(t + u)
--   S2 r s                       X_s(u) X_r(t) = X_r(t) X_s(u) times the product of the X_(ir+js)(C_ijrs (-t)^i u^j), over the terms of r and s in order
--   S6 i                         X_i(t) X_-i(-1/t) X_i(t) N_i^-1 = a_i^(t)
--   S7 i s                       N_i X_s(t) = X_(s_i s)(eta_is t) N_i
--   the relations in order       relations d
--   the size of X_r(f)           size_element v r (size of f)    1 + the sum over k from 1 of (size of f)^k |E_r^(k)|
use Rattle.std.specs.Prelude.{ℕ, suc, ◌*◌, ℤ, pos, neg_ℤ, ◌+ℤ◌, ◌*ℤ◌, nat_abs, not, ◌&&◌, cond, eqb, ltb, List, [], ◌∷◌, ◌++◌, map, length, slice_index_or}
use Rattle.std.specs.List.{filter, flat_map, range_with_len}
use Rattle.std.specs.Ordering.{int_eq}
use Rattle.lie_ring.specs.Rings.{RingOn, sum_below}
use Rattle.lie_ring.specs.Integers.{integers}
use Rattle.lie_ring.specs.Powers.{power}
use Rattle.lie_ring.specs.Matrices.{Matrix, table, entry, identity, product}
use Rattle.lie_datum.specs.Numbers.{place, number_at}
use Rattle.lie_datum.specs.Vectors.{pairing}
use Rattle.lie_datum.specs.RootDatum.{rank, simple_coroot}
use Rattle.lie_datum.specs.RootList.{RootDatum}
use Rattle.lie_const.specs.declared.term.Term.{Term}
use Rattle.lie_const.specs.ConstantTables.{ConstantTable, terms_of}
use Rattle.lie_const.specs.Modules.{Module, dimension, top, divided_power, root_element}
use Rattle.lie_const.specs.Signs.{Signs, image}
use Rattle.lie_identities.specs.declared.relations.Rel.{Rel}
use Rattle.lie_identities.specs.declared.relations.Rel.TheVariants.{S1, S2, S6, S7}
-- a factor of a side
pub use Rattle.lie_identities.specs.declared.factors.Factor.{Factor}
pub use Rattle.lie_identities.specs.declared.factors.Factor.TheVariants.{RootElement, CorootElement}

-- ---- the relations
-- a ring with the powers of t, negative ones too, and with u
pub record Variables (A : Type 0) : Type 0 where
  pub ring : RingOn A
  pub t_to : ℤ → A
  pub u : A

-- N_i
abbrev pub weyl_factors : {A : Type 0} → RingOn A → ℕ → List (Factor A)
weyl_factors R i = RootElement (pos i) R.one ∷ (RootElement (neg_ℤ (pos i)) (R.neg R.one) ∷ (RootElement (pos i) R.one ∷ []))

-- N_i^-1
abbrev pub inverse_factors : {A : Type 0} → RingOn A → ℕ → List (Factor A)
inverse_factors R i = RootElement (pos i) (R.neg R.one) ∷ (RootElement (neg_ℤ (pos i)) R.one ∷ (RootElement (pos i) (R.neg R.one) ∷ []))

-- C_ijrs (-t)^i u^j, for a term of r and s
abbrev pub term_value : {A : Type 0} → Variables A → Term → A
term_value y c = y.ring.mul (y.ring.of_int c.value) (y.ring.mul (power y.ring (y.ring.neg (y.t_to (pos 1))) c.i) (power y.ring y.u c.j))

-- the factors of the left side of a relation
abbrev pub left_side : {A : Type 0} → Variables A → Rel → List (Factor A)
left_side y (S1 r) = RootElement r (y.t_to (pos 1)) ∷ (RootElement r y.u ∷ [])
left_side y (S2 r s) = RootElement s y.u ∷ (RootElement r (y.t_to (pos 1)) ∷ [])
left_side y (S6 i) = RootElement (pos i) (y.t_to (pos 1)) ∷ (RootElement (neg_ℤ (pos i)) (y.ring.neg (y.t_to (neg_ℤ (pos 1)))) ∷ (RootElement (pos i) (y.t_to (pos 1)) ∷ inverse_factors y.ring i))
left_side y (S7 i s) = weyl_factors y.ring i ++ RootElement s (y.t_to (pos 1)) ∷ []

-- the factors of its right side
abbrev pub right_side : {A : Type 0} → Variables A → RootDatum → ConstantTable → Signs → Rel → List (Factor A)
right_side y d c eta (S1 r) = RootElement r (y.ring.add (y.t_to (pos 1)) y.u) ∷ []
right_side y d c eta (S2 r s) = RootElement r (y.t_to (pos 1)) ∷ (RootElement s y.u ∷ map (λ x. RootElement x.root (term_value y x)) (terms_of c r s))
right_side y d c eta (S6 i) = CorootElement i ∷ []
right_side y d c eta (S7 i s) = RootElement (image d i s) (y.ring.mul (y.ring.of_int (eta i s)) (y.t_to (pos 1))) ∷ weyl_factors y.ring i

-- ---- their order
-- the signed numbers of the roots, in the full order
abbrev pub root_numbers : RootDatum → List ℤ
root_numbers d = map (number_at (length d.positive)) (range_with_len 0 (2 * length d.positive))

-- the roots after r in the full order, but -r
abbrev pub partners : RootDatum → ℤ → List ℤ
partners d r = filter (λ s. ltb (place (length d.positive) r) (place (length d.positive) s) && not (int_eq s (neg_ℤ r))) (root_numbers d)

-- the simple indices, rising
abbrev pub simple_indices : RootDatum → List ℕ
simple_indices d = range_with_len 1 (rank d.base)

-- all relations: S1 for each root, S2 for each two roots that are not opposite, S6 for each simple index, S7 for each simple index and root
unfoldable pub relations : RootDatum → List Rel
relations d =
    map S1 (root_numbers d)
    ++ (flat_map (λ r. map (S2 r) (partners d r)) (root_numbers d)
    ++ (map S6 (simple_indices d)
    ++ flat_map (λ i. map (S7 i) (root_numbers d)) (simple_indices d)))

-- ---- the matrices of the sides
-- t^<x, a_i^>, for the weight x of the basis vector at a
abbrev pub coroot_power : {A : Type 0} → Variables A → RootDatum → Module → ℕ → ℕ → A
coroot_power y d v i a = y.t_to (pairing (slice_index_or v.weights a []) (simple_coroot d.base i))

-- the matrix of a factor on a module
abbrev pub factor_matrix : {A : Type 0} → Variables A → RootDatum → Module → Factor A → Matrix A
factor_matrix y d v (RootElement r f) = root_element y.ring v r f
factor_matrix y d v (CorootElement i) = table (dimension v) (dimension v) (λ a b. cond (eqb a b) (coroot_power y d v i a) y.ring.zero)

-- the product of the matrices of a list of factors
abbrev pub side_matrix : {A : Type 0} → Variables A → RootDatum → Module → List (Factor A) → Matrix A
side_matrix y d v [] = identity y.ring (dimension v)
side_matrix y d v (x ∷ xs) = product y.ring (factor_matrix y d v x) (side_matrix y d v xs)

-- ---- their sizes
-- the entry of the size of X_r(f), for f of the size n
abbrev pub size_entry : Module → ℤ → ℕ → ℕ → ℕ → ℤ
size_entry v r n a b = cond (eqb a b) (pos 1) (pos 0) +ℤ sum_below integers (top v r) (λ k. power integers (pos n) (suc k) *ℤ pos (nat_abs (entry (pos 0) (divided_power v r (suc k)) a b)))

-- the size of X_r(f), for f of the size n
abbrev pub size_element : Module → ℤ → ℕ → Matrix ℤ
size_element v r n = table (dimension v) (dimension v) (size_entry v r n)

-- the size of a factor: that of a_i^(t) is 1, since each power of t has the size 1
abbrev pub factor_size : {A : Type 0} → RingOn A → Module → Factor A → Matrix ℤ
factor_size R v (RootElement r f) = size_element v r (R.size f)
factor_size R v (CorootElement i) = identity integers (dimension v)

-- the product of the sizes of a list of factors
abbrev pub side_size : {A : Type 0} → RingOn A → Module → List (Factor A) → Matrix ℤ
side_size R v [] = identity integers (dimension v)
side_size R v (x ∷ xs) = product integers (factor_size R v x) (side_size R v xs)
