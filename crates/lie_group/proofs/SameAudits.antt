-- Constants that say the same of each two roots make the same relations, so that an audit has one answer for both.
use Rattle.std.proofs.Common.{◌≡◌, ◌⊎◌, List, [], ◌∷◌, ◌++◌, refl, sym, subst}
use Rattle.std.specs.List.{All}
use Rattle.std.proofs.lemmas.List.Elements.{All-nil, All-cons, All-head, All-tail}
use Rattle.lie_datum.specs.RootList.{RootDatum}
use Rattle.lie_mat.specs.Wide.{IsHugeMatrix}
use Rattle.lie_const.specs.ConstantTables.{ConstantTable, IsSameTable}
use Rattle.lie_const.specs.Modules.{Module}
use Rattle.lie_const.specs.Signs.{Signs}
use Rattle.lie_poly.specs.Polynomials.{laurent}
use Rattle.lie_identities.specs.declared.relations.Rel.{Rel}
use Rattle.lie_identities.specs.declared.relations.Rel.TheVariants.{S1, S2, S6, S7}
use Rattle.lie_identities.specs.declared.faults.AuditFault.{AuditFault}
use Rattle.lie_identities.specs.declared.faults.AuditFault.TheVariants.{NoMemory, Graded, Large, Relation}
use Rattle.lie_identities.specs.AuditRelations.{relations, side_matrix, side_size}
use Rattle.lie_identities.specs.Audit.{laurent_variables, left_factors, right_factors, left_matrix, IsLarge, IsMet, MeetsIdentities, AreMetBefore, IsFirstDifferentEntry, IsAuditFault}
use Rattle.lie_identities.specs.Sides.{IsRelationOf}
use Rattle.lie_identities.proofs.RelationMembers.{relations_all}

-- ---- lists
-- a property of the members of a list, one by one
all_by : {A : Type 0} (P Q R : A → Type 0) → ((x : A) → P x → Q x → R x) → (xs : List A) → All P xs → All Q xs → All R xs
all_by P Q R h xs a b k z l = h _ (a k z l) (b k z l)

-- of the first part of a list, and of the member behind it
first_part : {A : Type 0} (P : A → Type 0) (xs ys : List A) (x : A) → All P (xs ++ x ∷ ys) → All P xs
first_part P [] ys x h = All-nil P
first_part P (z ∷ xs) ys x h = All-cons P z xs (All-head P z (xs ++ x ∷ ys) h) (first_part P xs ys x (All-tail P z (xs ++ x ∷ ys) h))

next_member : {A : Type 0} (P : A → Type 0) (xs ys : List A) (x : A) → All P (xs ++ x ∷ ys) → P x
next_member P [] ys x h = All-head P x ys h
next_member P (z ∷ xs) ys x h = next_member P xs ys x (All-tail P z (xs ++ x ∷ ys) h)

-- ---- relations
module _ (d : RootDatum) (c e : ConstantTable) (same : IsSameTable d c e) (eta : Signs) (v : Module) where
  -- the right sides have the same factors
  right_same : (q : Rel) → IsRelationOf d q → right_factors d c eta q ≡ right_factors d e eta q
  right_same (S1 r) h = refl
  right_same (S2 r s) h = let k = same.terms r s h in cc
  right_same (S6 i) h = refl
  right_same (S7 i s) h = refl

  large_same : (q : Rel) → IsRelationOf d q → IsLarge d c eta v q → IsLarge d e eta v q
  large_same q h = subst (λ fs. IsHugeMatrix (side_size laurent v (left_factors q)) ⊎ IsHugeMatrix (side_size laurent v fs)) (right_same q h)

  large_back : (q : Rel) → IsRelationOf d q → IsLarge d e eta v q → IsLarge d c eta v q
  large_back q h = subst (λ fs. IsHugeMatrix (side_size laurent v (left_factors q)) ⊎ IsHugeMatrix (side_size laurent v fs)) (sym (right_same q h))

  met_same : (q : Rel) → IsRelationOf d q → IsMet d c eta v q → IsMet d e eta v q
  met_same q h m = record {
    small = λ l. m.small (large_back q h l);
    identity = subst (λ fs. left_matrix d v q ≡ side_matrix laurent_variables d v fs) (right_same q h) m.identity;
  }

  -- a module that meets the identities for the one meets them for the other
  pub meets_same : MeetsIdentities d c eta v → MeetsIdentities d e eta v
  meets_same m = record {
    graded = m.graded;
    relations = all_by (IsRelationOf d) (IsMet d c eta v) (IsMet d e eta v) met_same (relations d) (relations_all d) m.relations;
  }

  -- a relation that all before it are met of is one of the datum
  relation_at : (q : Rel) → AreMetBefore d c eta v q → IsRelationOf d q
  relation_at q h = next_member (IsRelationOf d) h.before h.after q (subst (All (IsRelationOf d)) h.split (relations_all d))

  before_same : (q : Rel) → AreMetBefore d c eta v q → AreMetBefore d e eta v q
  before_same q h = record {
    before = h.before;
    after = h.after;
    split = h.split;
    met = all_by (IsRelationOf d) (IsMet d c eta v) (IsMet d e eta v) met_same h.before (first_part (IsRelationOf d) h.before h.after q (subst (All (IsRelationOf d)) h.split (relations_all d))) h.met;
  }

  -- a fault for the one is a fault for the other
  pub fault_same : (why : AuditFault) → IsAuditFault d c eta v why → IsAuditFault d e eta v why
  fault_same NoMemory h = h
  fault_same (Graded r k row col) h = h
  fault_same (Large q) h = (h.0, before_same q h.1, large_same q (relation_at q h.1) h.2)
  fault_same (Relation q row col et eu left right) h =
      let at = relation_at q h.1 in (
        h.0,
        before_same q h.1,
        (λ l. h.2 (large_back q at l)),
        subst (λ fs. IsFirstDifferentEntry (left_matrix d v q) (side_matrix laurent_variables d v fs) row col et eu left right) (right_same q at) h.3,
      )
