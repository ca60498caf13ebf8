-- Which words are joined does not depend on the table of constants: each two that a datum loads have the same terms.
use Rattle.std.proofs.Common.{◌≡◌, ℕ, zero, suc, ◌<◌, List, [], ◌∷◌, map, Ok, refl, sym, ap, ap₂, subst, ◌∙◌, arith}
use Rattle.lie_field.specs.FiniteField.{FiniteField}
use Rattle.lie_field.specs.Elements.{Elem, elem_neg, elem_mul}
use Rattle.lie_datum.specs.RootDatum.{opposite}
use Rattle.lie_datum.specs.RootList.{RootDatum, IsLoaded, root_of}
use Rattle.lie_datum.proofs.SignedRoots.{opposite_number}
use Rattle.lie_const.specs.CommutatorTerms.{IsPair}
use Rattle.lie_const.specs.ConstantTables.{ConstantTable, value_of, terms_of, LoadsConstants}
use Rattle.lie_const.proofs.SameTerms.{one_terms}
use Rattle.lie_letters.specs.declared.letter.Letter.{Letter as CodeLetter}
use Rattle.lie_letters.specs.Chains.{JoinedBy}
use Rattle.lie_letters.specs.Setting.{Term}
use Rattle.lie_letters.specs.Names.{RootName, opposite_name, signed_number}
use Rattle.lie_letters.specs.Frames.{FrameData, setting, character_at, term_of, terms_at, IsLawfulFrame}
use Rattle.lie_letters.specs.Letters.{Letter, Word, X, H, N, Ninv}
use Rattle.lie_letters.specs.Relations.{Relation, power, term_letters, S0-root, S0-torus, S1, S2, S3, S4}
use Rattle.lie_letters.specs.Spelled.{spelled, JoinedSpelled}
use Rattle.lie_letters.proofs.ChainLemmas.{by_relation, carried}
use Rattle.lie_letters.proofs.NameLemmas.{named_is, same_number, same_name, opposite_at}

module _ (F : FiniteField) (D : RootDatum) (c e : ConstantTable) (loaded : IsLoaded D) (here : LoadsConstants D (Ok c)) (there : LoadsConstants D (Ok e)) where
  abbrev f : FrameData
  f = record { field = F; datum = D; constants = c }

  abbrev g : FrameData
  g = record { field = F; datum = D; constants = e }

  -- the same letter
  abbrev move : Letter (setting f) → Letter (setting g)
  move (X r a) = X r a
  move (H t) = H t
  move (N i) = N i
  move (Ninv i) = Ninv i

  move-spelled : (a : Letter (setting f)) → spelled g (move a) ≡ spelled f a
  move-spelled (X r a) = refl
  move-spelled (H t) = refl
  move-spelled (N i) = refl
  move-spelled (Ninv i) = refl

  word-spelled : (w : Word (setting f)) → map (spelled g) (map move w) ≡ map (spelled f) w
  word-spelled [] = refl
  word-spelled (a ∷ w) = ap₂ ◌∷◌ (move-spelled a) (word-spelled w)

  same_power : (a : Elem F) (n : ℕ) → power (setting f) a n ≡ power (setting g) a n
  same_power a zero = refl
  same_power a (suc n) = ap (λ x. elem_mul F x a) (same_power a n)

  terms-moved : (cs : List (Term (RootName D) (Elem F))) (t u : Elem F) → map move (term_letters (setting f) cs t u) ≡ term_letters (setting g) cs t u
  terms-moved [] t u = refl
  terms-moved (z ∷ cs) t u =
      ap₂ (λ x y. X z.root (elem_mul F z.value (elem_mul F x y)) ∷ map move (term_letters (setting f) cs t u)) (same_power (elem_neg F t) z.i) (same_power u z.j)
      ∙ ap (λ w. X z.root (elem_mul F z.value (elem_mul F (power (setting g) (elem_neg F t) z.i) (power (setting g) u z.j))) ∷ w) (terms-moved cs t u)

  same_terms : (r s : RootName D) → r.number < s.number → ¬ (s ≡ opposite_name D r) → terms_at f r s ≡ terms_at g r s
  unfolding terms_at term_of
  same_terms r s before apart =
      let a = named_is D r in
      let b = named_is D s in
      let pair : IsPair D (signed_number D r) (signed_number D s) = record {
        left = a.number;
        right = b.number;
        unequal = λ i. (let n = ap (λ (z : RootName D). z.number) (same_number D s r i) in omega (arith, before, n));
        independent = λ i.
            (let turned = opposite_number D (signed_number D r) a.number in
            apart (same_name D loaded s (opposite_name D r) (sym b.root ∙ ap (root_of D) i ∙ turned.1 ∙ ap opposite a.root ∙ sym (opposite_at D loaded r))));
      } in
      ap (map (term_of f r))
      (one_terms D loaded (value_of c) (value_of e) here.1 there.1 (signed_number D r) (signed_number D s)
      (terms_of c (signed_number D r) (signed_number D s)) (terms_of e (signed_number D r) (signed_number D s)) (here.2 _ _ pair) (there.2 _ _ pair))

  respects : (l r : Word (setting f)) → Relation (setting f) l r → JoinedBy (Relation (setting g)) (map move l) (map move r)
  unfolding character_at
  respects l r (S0-root s) = by_relation _ _ (S0-root s)
  respects l r S0-torus = by_relation _ _ S0-torus
  respects l r (S1 s a b) = by_relation _ _ (S1 s a b)
  respects l r (S2 q s t u before apart) =
      subst (λ w. JoinedBy (Relation (setting g)) (X s u ∷ X q t ∷ []) (X q t ∷ X s u ∷ w))
      (ap (λ cs. term_letters (setting g) cs t u) (sym (same_terms q s before apart)) ∙ sym (terms-moved (terms_at f q s) t u))
      (by_relation _ _ (S2 q s t u before apart))
  respects l r (S3 t u) = by_relation _ _ (S3 t u)
  respects l r (S4 t s a) = by_relation _ _ (S4 t s a)

  joined_moved : (u v : List CodeLetter) → JoinedSpelled f u v → JoinedSpelled g u v
  joined_moved u v d = record {
    left = map move d.left;
    right = map move d.right;
    left_spelled = word-spelled d.left ∙ d.left_spelled;
    right_spelled = word-spelled d.right ∙ d.right_spelled;
    joined = carried move respects d.joined;
  }

-- words that are joined in a lawful frame are joined in each one with its field and its datum
pub joined_elsewhere : (f g : FrameData) (u v : List CodeLetter) → IsLawfulFrame f → IsLawfulFrame g → f.field ≡ g.field → f.datum ≡ g.datum → JoinedSpelled f u v → JoinedSpelled g u v
joined_elsewhere f g u v a b same_field same_datum d =
    subst (λ F. (D : RootDatum) → f.datum ≡ D → IsLawfulFrame (record { field = F; datum = D; constants = g.constants }) → JoinedSpelled (record { field = F; datum = D; constants = g.constants }) u v)
    same_field
    (λ D e. subst (λ D. IsLawfulFrame (record { field = f.field; datum = D; constants = g.constants }) → JoinedSpelled (record { field = f.field; datum = D; constants = g.constants }) u v) e
    (λ h. joined_moved f.field f.datum f.constants g.constants a.loaded a.constants h.constants u v d))
    g.datum same_datum b
