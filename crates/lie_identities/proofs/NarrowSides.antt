-- The factors of a relation of a datum are those of its roots, and their products have small degrees.
use Rattle.std.proofs.Common.{ℕ, ◌*◌, ◌^◌, ◌<◌, ◌≤◌, ℤ, pos, neg_ℤ, List, [], ◌∷◌, map, length, refl, sym, ap, subst, arith}
use Rattle.std.specs.Prelude.{Ok}
use Rattle.std.specs.List.{All}
use Rattle.std.proofs.Math.Nat.{mul-le-mul_left, mul-le-mul_right}
use Rattle.std.proofs.lemmas.List.{length-map}
use Rattle.std.proofs.lemmas.List.Elements.{All-cons, All-head, All-tail, All-map, All-from_recursion}
use Rattle.lie_datum.specs.RootDatum.{IsSimpleIndex, reflected, is_reflected}
use Rattle.lie_datum.specs.RootList.{RootDatum, IsLoaded, IsNumber, root_of}
use Rattle.lie_datum.proofs.SignedRoots.{opposite_number, root_is, number_is}
use Rattle.lie_const.specs.declared.term.Term.{Term}
use Rattle.lie_const.specs.ConstantTables.{ConstantTable, LoadsConstants, terms_of}
use Rattle.lie_const.specs.Modules.{Module, top}
use Rattle.lie_const.specs.Signs.{Signs, image}
use Rattle.lie_const.proofs.FoundRoots.{number_of_is}
use Rattle.lie_mat.specs.Wide.{IsHugeMatrix}
use Rattle.lie_orbit.proofs.WeightLemmas.{simple_some}
use Rattle.lie_poly.specs.Polynomials.{Polynomial, laurent, degree}
use Rattle.lie_identities.specs.declared.relations.Rel.{Rel}
use Rattle.lie_identities.specs.declared.relations.Rel.TheVariants.{S1, S2, S6, S7}
use Rattle.lie_identities.specs.AuditRelations.{Factor, RootElement, CorootElement, side_size}
use Rattle.lie_identities.specs.Audit.{laurent_variables, left_factors, right_factors}
use Rattle.lie_identities.specs.Columns.{IsFactorOf, IsNarrowSide, side_degree}
use Rattle.lie_identities.specs.Sides.{IsRelationOf, HasRoot, factor_weight, factor_depth, term_factor}
use Rattle.lie_identities.specs.StepLists.{HasFewPowers}
use Rattle.lie_identities.proofs.TermBounds.{table_terms_few, table_terms_number}

-- ---- the roots of the factors
module _ (d : RootDatum) (loaded : IsLoaded d) where
  up : (i : ℕ) → IsSimpleIndex d.base i → IsNumber d (pos i)
  up i h = simple_some d loaded i h

  down : (i : ℕ) → IsSimpleIndex d.base i → IsNumber d (neg_ℤ (pos i))
  down i h = (opposite_number d (pos i) (up i h)).0

  image_number : (i : ℕ) (s : ℤ) → IsSimpleIndex d.base i → IsNumber d s → IsNumber d (image d i s)
  image_number i s h n =
      let t = number_is d loaded (reflected d.base i (root_of d s)) (is_reflected i (root_of d s) h (root_is d loaded s n)) in
      subst (IsNumber d) (sym (number_of_is d loaded t.0 (reflected d.base i (root_of d s)).coeffs t.1 (ap (λ z. z.coeffs) t.2))) t.1

  pub left-roots : (q : Rel) → IsRelationOf d q → All (HasRoot d) (left_factors q)
  left-roots (S1 r) h = All-from_recursion (HasRoot d) (left_factors (S1 r)) (h, (h, tt))
  left-roots (S2 r s) h = All-from_recursion (HasRoot d) (left_factors (S2 r s)) (h.right, (h.left, tt))
  left-roots (S6 i) h = All-from_recursion (HasRoot d) (left_factors (S6 i)) (up i h, (down i h, (up i h, (up i h, (down i h, (up i h, tt))))))
  left-roots (S7 i s) h = All-from_recursion (HasRoot d) (left_factors (S7 i s)) (up i h.0, (down i h.0, (up i h.0, (h.1, tt))))

  module _ (c : ConstantTable) (eta : Signs) (loads : LoadsConstants d (Ok c)) where
    pub right-roots : (q : Rel) → IsRelationOf d q → All (HasRoot d) (right_factors d c eta q)
    right-roots (S1 r) h = All-from_recursion (HasRoot d) (right_factors d c eta (S1 r)) (h, tt)
    right-roots (S2 r s) h =
        let rest : List (Factor Polynomial) = map term_factor (terms_of c r s) in
        All-cons (HasRoot d) (RootElement r (laurent_variables.t_to (pos 1))) (RootElement s laurent_variables.u ∷ rest) h.left
        (All-cons (HasRoot d) (RootElement s laurent_variables.u) rest h.right
        (All-map (HasRoot d) term_factor (terms_of c r s) (table_terms_number d loaded c loads r s h)))
    right-roots (S6 i) h = All-from_recursion (HasRoot d) (right_factors d c eta (S6 i)) (h, tt)
    right-roots (S7 i s) h = All-from_recursion (HasRoot d) (right_factors d c eta (S7 i s)) (image_number i s h.0 h.1, (up i h.0, (down i h.0, (up i h.0, tt))))

-- ---- their degrees
-- no factor is a coroot's
abbrev AreRoots : List (Factor Polynomial) → Type 0
AreRoots [] = Unit {0}
AreRoots (RootElement r f ∷ xs) = AreRoots xs
AreRoots (CorootElement i ∷ xs) = ⊥

terms-are_roots : (ts : List Term) → AreRoots (map term_factor ts)
terms-are_roots [] = tt
terms-are_roots (t ∷ ts) = terms-are_roots ts

module _ (v : Module) (few : HasFewPowers v) where
  root-degree : (r : ℤ) (n : ℕ) → n ≤ 3 → top v r * n ≤ 49152
  root-degree r n l =
      let a = mul-le-mul_right n (few r) in
      let b = mul-le-mul_left 16384 l in
      omega (arith, a, b)

  roots-degree : (xs : List (Factor Polynomial)) → AreRoots xs → All (λ x. factor_depth x ≤ 3) xs → side_degree v xs ≤ length xs * 49152
  roots-degree [] p a = omega arith
  roots-degree (RootElement r f ∷ xs) p a =
      let x : Factor Polynomial = RootElement r f in
      let P : Factor Polynomial → Type 0 = λ y. factor_depth y ≤ 3 in
      let here = root-degree r (degree f) (All-head P x xs a) in
      let rest = roots-degree xs p (All-tail P x xs a) in
      omega (arith, here, rest)
  roots-degree (CorootElement i ∷ xs) p a = absurd p

  small-degree : (xs : List (Factor Polynomial)) → AreRoots xs → length xs ≤ 9 → All (λ x. factor_depth x ≤ 3) xs → side_degree v xs < 2 ^ 30
  small-degree xs p l a = let h = roots-degree xs p a in let m = mul-le-mul_right 49152 l in omega (arith, h, m)

  left-degree : (q : Rel) → All (λ x. factor_depth x ≤ 3) (left_factors q) → side_degree v (left_factors q) < 2 ^ 30
  left-degree (S1 r) a = small-degree (left_factors (S1 r)) tt (omega arith) a
  left-degree (S2 r s) a = small-degree (left_factors (S2 r s)) tt (omega arith) a
  left-degree (S6 i) a = small-degree (left_factors (S6 i)) tt (omega arith) a
  left-degree (S7 i s) a = small-degree (left_factors (S7 i s)) tt (omega arith) a

  right-degree : (d : RootDatum) (c : ConstantTable) (eta : Signs) → LoadsConstants d (Ok c) → (q : Rel) → IsRelationOf d q → All (λ x. factor_depth x ≤ 3) (right_factors d c eta q) → side_degree v (right_factors d c eta q) < 2 ^ 30
  right-degree d c eta loads (S1 r) h a = small-degree (right_factors d c eta (S1 r)) tt (omega arith) a
  right-degree d c eta loads (S2 r s) h a =
      let n = length-map (terms_of c r s) term_factor in
      let l = table_terms_few d c loads r s h in
      small-degree (right_factors d c eta (S2 r s)) (terms-are_roots (terms_of c r s)) (omega (arith, n, l)) a
  right-degree d c eta loads (S6 i) h a = omega arith
  right-degree d c eta loads (S7 i s) h a = small-degree (right_factors d c eta (S7 i s)) tt (omega arith) a

-- ---- the sides
factor-of : (d : RootDatum) (x : Factor Polynomial) → HasRoot d x → factor_weight x ≤ 64 → IsFactorOf d x
factor-of d (RootElement r f) h l = (h, (refl, omega (arith, l)))
factor-of d (CorootElement i) h l = h

factors-of : (d : RootDatum) (xs : List (Factor Polynomial)) → All (HasRoot d) xs → All (λ x. factor_weight x ≤ 64) xs → All (IsFactorOf d) xs
factors-of d xs a b k z l = factor-of d _ (a k z l) (b k z l)

pub left-narrow : (d : RootDatum) → IsLoaded d → (v : Module) → HasFewPowers v → (q : Rel) → IsRelationOf d q
    → All (λ x. factor_weight x ≤ 64) (left_factors q) → All (λ x. factor_depth x ≤ 3) (left_factors q)
    → ¬ IsHugeMatrix (side_size laurent v (left_factors q)) → IsNarrowSide d v (left_factors q)
left-narrow d loaded v few q h a b small = record {
  factors = factors-of d (left_factors q) (left-roots d loaded q h) a;
  small = small;
  shallow = left-degree v few q b;
}

pub right-narrow : (d : RootDatum) → IsLoaded d → (c : ConstantTable) (eta : Signs) → LoadsConstants d (Ok c) → (v : Module) → HasFewPowers v → (q : Rel) → IsRelationOf d q
    → All (λ x. factor_weight x ≤ 64) (right_factors d c eta q) → All (λ x. factor_depth x ≤ 3) (right_factors d c eta q)
    → ¬ IsHugeMatrix (side_size laurent v (right_factors d c eta q)) → IsNarrowSide d v (right_factors d c eta q)
right-narrow d loaded c eta loads v few q h a b small = record {
  factors = factors-of d (right_factors d c eta q) (right-roots d loaded c eta loads q h) a;
  small = small;
  shallow = right-degree v few d c eta loads q h b;
}
