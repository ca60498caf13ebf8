-- The factors of the sides of a relation have elements as entries, and their matrices are square.
-- Own: t, its powers and u are asked to be elements.
use Rattle.std.proofs.Common.{◌≡◌, ℕ, zero, suc, ℤ, pos, List, [], ◌∷◌, map, cond, eqb, true, false, Bool, refl, sym, ◌∙◌}
use Rattle.lie_ring.specs.Rings.{RingOn, IsElem, IsRing}
use Rattle.lie_ring.specs.Powers.{power}
use Rattle.lie_ring.specs.SumLemmas.{sum-elem}
use Rattle.lie_ring.specs.Matrices.{entry, AllElem}
use Rattle.lie_ring.specs.MatrixElements.{table-elem, identity-elem, product-elem}
use Rattle.lie_datum.specs.RootList.{RootDatum}
use Rattle.lie_const.specs.declared.term.Term.{Term}
use Rattle.lie_const.specs.ConstantTables.{ConstantTable, terms_of}
use Rattle.lie_const.specs.Modules.{Module, dimension, top, divided_power, root_element, root_element_entry}
use Rattle.lie_const.specs.Signs.{Signs}
use Rattle.lie_identities.specs.declared.relations.Rel.{Rel}
use Rattle.lie_identities.specs.declared.relations.Rel.TheVariants.{S1, S2, S6, S7}
use Rattle.lie_identities.specs.AuditRelations.{Variables, Factor, RootElement, CorootElement, term_value, left_side, right_side, factor_matrix, side_matrix}
use Rattle.lie_identities.specs.Audit.{laurent_variables}

-- t and u are elements
pub record AreVariables {A : Type 0} (y : Variables A) : Type 0 where
  pub t_elem : (e : ℤ) → IsElem y.ring (y.t_to e)
  pub u_elem : IsElem y.ring y.u

-- those of the Laurent polynomials are
pub polynomials : AreVariables laurent_variables
polynomials = record { t_elem = λ _. refl; u_elem = refl }

-- a factor whose element is one of the ring
abbrev pub IsFactorOver : {A : Type 0} → RingOn A → Factor A → Type 0
IsFactorOver R (RootElement r f) = IsElem R f
IsFactorOver R (CorootElement i) = Unit {0}

-- all are
abbrev pub AreFactorsOver : {A : Type 0} → RingOn A → List (Factor A) → Type 0
AreFactorsOver R [] = Unit {0}
AreFactorsOver R (x ∷ xs) = IsFactorOver R x × AreFactorsOver R xs

module _ {A : Type 0} (R : RingOn A) (ring : IsRing R) where
  -- a power of an element
  pub power-elem : (a : A) (n : ℕ) → IsElem R a → IsElem R (power R a n)
  power-elem a zero p = ring.laws.one_elem
  power-elem a (suc n) p = ring.laws.mul_elem (power R a n) a (power-elem a n p) p

  -- one of two elements
  pub cond-elem : (b : Bool) (x y : A) → IsElem R x → IsElem R y → IsElem R (cond b x y)
  cond-elem true x y p q = p
  cond-elem false x y p q = q

  -- what E_r^(k+1) adds in an entry
  pub step-elem : (v : Module) (r : ℤ) (t : A) (i j k : ℕ) → IsElem R t → IsElem R (R.mul (power R t (suc k)) (R.of_int (entry (pos 0) (divided_power v r (suc k)) i j)))
  step-elem v r t i j k p = ring.laws.mul_elem _ _ (power-elem t (suc k) p) (ring.integers.int_elem _)

  -- the entries of X_r(t)
  entry-elem : (v : Module) (r : ℤ) (t : A) (i j : ℕ) → IsElem R t → IsElem R (root_element_entry R v r t i j)
  entry-elem v r t i j p =
      ring.laws.add_elem _ _ (cond-elem (eqb i j) R.one R.zero ring.laws.one_elem ring.laws.zero_elem)
      (sum-elem R ring.laws (top v r) _ (λ k _. step-elem v r t i j k p))

  -- X_r(t)
  pub root_element-elem : (v : Module) (r : ℤ) (t : A) → IsElem R t → AllElem R (root_element R v r t)
  unfolding root_element
  root_element-elem v r t p = table-elem R ring (dimension v) (dimension v) (root_element_entry R v r t) (λ i j _ _. entry-elem v r t i j p)

module _ {A : Type 0} (y : Variables A) (d : RootDatum) (v : Module) (ring : IsRing y.ring) (over : AreVariables y) where
  -- the matrix of a factor has elements as entries
  pub factor-elem : (x : Factor A) → IsFactorOver y.ring x → AllElem y.ring (factor_matrix y d v x)
  factor-elem (RootElement r f) p = root_element-elem y.ring ring v r f p
  factor-elem (CorootElement i) p = table-elem y.ring ring (dimension v) (dimension v) _ (λ a b _ _. cond-elem y.ring ring (eqb a b) _ y.ring.zero (over.t_elem _) ring.laws.zero_elem)

  -- it is square
  pub factor-height : (x : Factor A) → (factor_matrix y d v x).height ≡ dimension v
  unfolding root_element
  factor-height (RootElement r f) = refl
  factor-height (CorootElement i) = refl

  pub factor-width : (x : Factor A) → (factor_matrix y d v x).width ≡ dimension v
  unfolding root_element
  factor-width (RootElement r f) = refl
  factor-width (CorootElement i) = refl

  pub side-height : (xs : List (Factor A)) → (side_matrix y d v xs).height ≡ dimension v
  side-height [] = refl
  side-height (x ∷ xs) = factor-height x

  -- the matrix of a side has elements as entries
  pub side-elem : (xs : List (Factor A)) → AreFactorsOver y.ring xs → AllElem y.ring (side_matrix y d v xs)
  side-elem [] p = identity-elem y.ring ring (dimension v)
  side-elem (x ∷ xs) p = product-elem y.ring ring (factor_matrix y d v x) (side_matrix y d v xs) (factor-width x ∙ sym (side-height xs)) (factor-elem x p.0) (side-elem xs p.1)

module _ {A : Type 0} (y : Variables A) (ring : IsRing y.ring) (over : AreVariables y) where
  -- ---- the factors of the two sides
  one_over : IsElem y.ring y.ring.one
  one_over = ring.laws.one_elem

  minus_over : IsElem y.ring (y.ring.neg y.ring.one)
  minus_over = ring.laws.neg_elem y.ring.one one_over

  t_over : IsElem y.ring (y.t_to (pos 1))
  t_over = over.t_elem (pos 1)

  minus_t_over : IsElem y.ring (y.ring.neg (y.t_to (pos 1)))
  minus_t_over = ring.laws.neg_elem _ t_over

  -- C_ijrs (-t)^i u^j
  value_over : (c : Term) → IsElem y.ring (term_value y c)
  value_over c =
      ring.laws.mul_elem _ _ (ring.integers.int_elem c.value)
      (ring.laws.mul_elem _ _ (power-elem y.ring ring _ c.i minus_t_over) (power-elem y.ring ring y.u c.j over.u_elem))

  terms_over : (cs : List Term) → AreFactorsOver y.ring (map (λ x. RootElement x.root (term_value y x)) cs)
  terms_over [] = tt
  terms_over (c ∷ cs) = (value_over c, terms_over cs)

  pub left_over_ring : (q : Rel) → AreFactorsOver y.ring (left_side y q)
  left_over_ring (S1 r) = (t_over, (over.u_elem, tt))
  left_over_ring (S2 r s) = (over.u_elem, (t_over, tt))
  left_over_ring (S6 i) = (t_over, (ring.laws.neg_elem _ (over.t_elem _), (t_over, (minus_over, (one_over, (minus_over, tt))))))
  left_over_ring (S7 i s) = (one_over, (minus_over, (one_over, (t_over, tt))))

module _ {A : Type 0} (y : Variables A) (d : RootDatum) (ring : IsRing y.ring) (over : AreVariables y) where
  -- those of the right side
  pub right_over_ring : (c : ConstantTable) (eta : Signs) (q : Rel) → AreFactorsOver y.ring (right_side y d c eta q)
  right_over_ring c eta (S1 r) = (ring.laws.add_elem _ _ (t_over y ring over) over.u_elem, tt)
  right_over_ring c eta (S2 r s) = ((t_over y ring over), (over.u_elem, terms_over y ring over (terms_of c r s)))
  right_over_ring c eta (S6 i) = (tt, tt)
  right_over_ring c eta (S7 i s) = (ring.laws.mul_elem _ _ (ring.integers.int_elem (eta i s)) (t_over y ring over), ((one_over y ring over), ((minus_over y ring over), ((one_over y ring over), tt))))
