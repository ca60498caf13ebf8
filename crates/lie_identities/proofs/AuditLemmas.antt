-- What is found of one relation is what the audit answers.
use Rattle.std.proofs.Common.{◌≡◌, ◌⊎◌, List, refl, sym, subst, inl, inr, Result}
use Rattle.std.specs.Prelude.{MatchResult}
use Rattle.std.proofs.lemmas.Result.{MatchResult-weaker}
use Rattle.lie_mat.specs.Wide.{IsHugeMatrix}
use Rattle.lie_datum.specs.RootList.{RootDatum}
use Rattle.lie_const.specs.ConstantTables.{ConstantTable}
use Rattle.lie_const.specs.Modules.{Module}
use Rattle.lie_const.specs.Signs.{Signs}
use Rattle.lie_poly.specs.Polynomials.{Polynomial, laurent}
use Rattle.lie_identities.specs.declared.relations.Rel.{Rel}
use Rattle.lie_identities.specs.declared.faults.AuditFault.{AuditFault}
use Rattle.lie_identities.specs.declared.faults.AuditFault.TheVariants.{NoMemory, Graded, Large, Relation}
use Rattle.lie_identities.specs.AuditRelations.{Factor, side_matrix, side_size}
use Rattle.lie_identities.specs.Audit.{laurent_variables, left_factors, right_factors, left_matrix, right_matrix, IsLarge, IsMet, IsGraded, AreMetBefore, IsAuditFault, IsFirstDifferentEntry}
use Rattle.lie_identities.specs.Audited.{IsRelationFault}
use Rattle.lie_identities.specs.Comparison.{IsDifference}

module _ (d : RootDatum) (c : ConstantTable) (eta : Signs) (v : Module) (q : Rel) where
  -- a side that is large
  pub left-large : (ls : List (Factor Polynomial)) → ls ≡ left_factors q → (f : AuditFault) → (f ≡ NoMemory) ⊎ ((f ≡ Large q) × IsHugeMatrix (side_size laurent v ls)) → IsRelationFault d c eta v q f
  left-large ls e f (inl h) = subst (IsRelationFault d c eta v q) (sym h) tt
  left-large ls e f (inr h) = subst (IsRelationFault d c eta v q) (sym h.0) (refl, inl (subst (λ xs. IsHugeMatrix (side_size laurent v xs)) e h.1))

  pub right-large : (rs : List (Factor Polynomial)) → rs ≡ right_factors d c eta q → (f : AuditFault) → (f ≡ NoMemory) ⊎ ((f ≡ Large q) × IsHugeMatrix (side_size laurent v rs)) → IsRelationFault d c eta v q f
  right-large rs e f (inl h) = subst (IsRelationFault d c eta v q) (sym h) tt
  right-large rs e f (inr h) = subst (IsRelationFault d c eta v q) (sym h.0) (refl, inr (subst (λ xs. IsHugeMatrix (side_size laurent v xs)) e h.1))

  not_large : ¬ IsHugeMatrix (side_size laurent v (left_factors q)) → ¬ IsHugeMatrix (side_size laurent v (right_factors d c eta q)) → ¬ IsLarge d c eta v q
  not_large a b (inl h) = a h
  not_large a b (inr h) = b h

  difference-fault : ¬ IsLarge d c eta v q → (f : AuditFault) → IsDifference q (left_matrix d v q) (right_matrix d c eta v q) f → IsRelationFault d c eta v q f
  difference-fault small NoMemory h = tt
  difference-fault small (Graded r k row col) h = absurd h
  difference-fault small (Large p) h = absurd h
  difference-fault small (Relation p row col et eu left right) h = (h.0, small, h.1)

  -- two sides that are not large, compared
  pub compared : (ls rs : List (Factor Polynomial)) → ls ≡ left_factors q → rs ≡ right_factors d c eta q
      → ¬ IsHugeMatrix (side_size laurent v ls) → ¬ IsHugeMatrix (side_size laurent v rs)
      → (result : Result (Unit {0}) AuditFault)
      → MatchResult result (λ _. side_matrix laurent_variables d v ls ≡ side_matrix laurent_variables d v rs) (IsDifference q (side_matrix laurent_variables d v ls) (side_matrix laurent_variables d v rs))
      → MatchResult result (λ _. IsMet d c eta v q) (IsRelationFault d c eta v q)
  compared ls rs e f a b result h =
      let small = not_large (subst (λ xs. ¬ IsHugeMatrix (side_size laurent v xs)) e a) (subst (λ xs. ¬ IsHugeMatrix (side_size laurent v xs)) f b) in
      let there = subst (λ ys. MatchResult result (λ _. left_matrix d v q ≡ side_matrix laurent_variables d v ys) (IsDifference q (left_matrix d v q) (side_matrix laurent_variables d v ys))) f
      (subst (λ xs. MatchResult result (λ _. side_matrix laurent_variables d v xs ≡ side_matrix laurent_variables d v rs) (IsDifference q (side_matrix laurent_variables d v xs) (side_matrix laurent_variables d v rs))) e h) in
      MatchResult-weaker result there (λ _ same. record { small = small; identity = same }) (λ g x. difference-fault small g x)

  -- the fault of the first relation that is not met
  pub fault-of : IsGraded d v → AreMetBefore d c eta v q → (f : AuditFault) → IsRelationFault d c eta v q f → IsAuditFault d c eta v f
  fault-of graded before NoMemory h = tt
  fault-of graded before (Graded r k row col) h = absurd h
  fault-of graded before (Large p) h = (graded, subst (AreMetBefore d c eta v) (sym h.0) before, subst (IsLarge d c eta v) (sym h.0) h.1)
  fault-of graded before (Relation p row col et eu left right) h = (
    graded,
    subst (AreMetBefore d c eta v) (sym h.0) before,
    subst (λ x. ¬ IsLarge d c eta v x) (sym h.0) h.1,
    subst (λ x. IsFirstDifferentEntry (left_matrix d v x) (right_matrix d c eta v x) row col et eu left right) (sym h.0) h.2,
  )
