-- The relations that are tested one after the other, and the first that fails.
-- Own: the order.
use Rattle.std.proofs.Common.{◌≡◌, ℕ, zero, suc, ◌+◌, ◌<◌, List, [], ◌∷◌, ◌++◌, length, take, drop, get_or, refl, sym, ap, ◌∙◌, subst}
use Rattle.std.specs.List.{All}
use Rattle.std.proofs.lemmas.List.{take_more, drop_more}
use Rattle.std.proofs.lemmas.List.Elements.{All-push}
use Rattle.lie_datum.specs.RootList.{RootDatum}
use Rattle.lie_const.specs.ConstantTables.{ConstantTable}
use Rattle.lie_const.specs.Modules.{Module}
use Rattle.lie_const.specs.Signs.{Signs}
use Rattle.lie_identities.specs.declared.relations.Rel.{Rel}
use Rattle.lie_identities.specs.AuditRelations.{relations}
use Rattle.lie_identities.specs.Audit.{IsMet, AreMetBefore}

-- a list in two parts
pub two_parts : {X : Type 0} (xs : List X) (k : ℕ) → xs ≡ take k xs ++ drop k xs
two_parts [] zero = refl
two_parts [] (suc k) = refl
two_parts (x ∷ xs) zero = refl
two_parts (x ∷ xs) (suc k) = ap (λ ys. x ∷ ys) (two_parts xs k)

module _ (d : RootDatum) (c : ConstantTable) (eta : Signs) (v : Module) where
  -- one more is met
  pub met-next : (k : ℕ) (q : Rel) → k < length (relations d) → q ≡ get_or (relations d) k q → All (IsMet d c eta v) (take k (relations d)) → IsMet d c eta v q → All (IsMet d c eta v) (take (k + 1) (relations d))
  met-next k q l is all met =
      subst (All (IsMet d c eta v)) (sym (take_more (relations d) k q l)) (All-push (IsMet d c eta v) (take k (relations d)) (get_or (relations d) k q) all (subst (IsMet d c eta v) is met))

  -- the next is the first that is not
  pub met-before : (k : ℕ) (q : Rel) → k < length (relations d) → q ≡ get_or (relations d) k q → All (IsMet d c eta v) (take k (relations d)) → AreMetBefore d c eta v q
  met-before k q l is all = record {
    before = take k (relations d);
    after = drop (k + 1) (relations d);
    split = two_parts (relations d) k ∙ ap (λ ys. take k (relations d) ++ ys) (drop_more (relations d) k q l ∙ ap (λ z. z ∷ drop (k + 1) (relations d)) (sym is));
    met = all;
  }
