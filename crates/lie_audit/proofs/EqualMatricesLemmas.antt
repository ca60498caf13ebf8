-- Joined words have equal matrices on an audited module.
use Rattle.std.proofs.Common.{◌≡◌, ◌≢◌, suc, neg_ℤ, [], ◌∷◌, sym, ap, ◌∙◌}
use Rattle.std.proofs.Math.Facts.{eqb_yes}
use Rattle.lie_field.specs.Elements.{elem_mul-number, elem_int-number}
use Rattle.lie_field.specs.Quotient.{mul}
use Rattle.lie_datum.specs.RootDatum.{vector, opposite}
use Rattle.lie_datum.specs.RootList.{root_of}
use Rattle.lie_datum.proofs.SignedRoots.{opposite_number}
use Rattle.lie_const.specs.Modules.{Module}
use Rattle.lie_const.specs.Signs.{Signs, eta_of}
use Rattle.lie_letters.specs.declared.letter.Letter.TheVariants.{X as CodeX, H as CodeH}
use Rattle.lie_letters.specs.Entries.{character}
use Rattle.lie_letters.specs.Torus.{torus_one, torus_mul}
use Rattle.lie_letters.specs.Names.{RootName, signed_number, opposite_name}
use Rattle.lie_letters.specs.Frames.{FrameData, setting, dim, IsLawfulFrame, character_at}
use Rattle.lie_letters.specs.Letters.{Word}
use Rattle.lie_letters.specs.Relations.{Relation, S0-root, S0-torus, S1, S2, S3, S4}
use Rattle.lie_letters.specs.SignedFrames.{SignedFrame, unsigned, sign_at, IsLawfulSigned}
use Rattle.lie_letters.specs.GroupRelations.{GroupRelation, plain, S5, S5-inverse, S6, S7}
use Rattle.lie_letters.specs.Spelled.{numbers}
use Rattle.lie_letters.proofs.NameLemmas.{named_is, opposite_at, same_name}
use Rattle.lie_letters.proofs.TorusLemmas.{AreUnits-numbers}
use Rattle.lie_letters.proofs.CharacterLemmas.{character_at-number}
use Rattle.lie_identities.specs.Audit.{MeetsIdentities}
use Rattle.lie_audit.specs.WordMatrix.{word_matrix}
use Rattle.lie_audit.specs.EqualMatrices.{EqualMatrices}
use Rattle.lie_audit.proofs.WeylRelations.{S5-respected, S5-inverse-respected, S6-respected, S7-respected}
use Rattle.lie_audit.proofs.RespectLemmas.{HaveOneMatrix, joined-respected}
use Rattle.lie_audit.proofs.TorusRelations.{s0-torus-holds, s3-holds, s4-holds}
use Rattle.lie_audit.proofs.RootRelations.{elem_of, S0-root-respected, S1-respected, S2-respected}

module _ (f : FrameData) (lawful : IsLawfulFrame f) (eta : Signs) (v : Module) (meets : MeetsIdentities f.datum f.constants eta v) where
  -- a root whose number is opposite is opposite
  apart_numbers : (r s : RootName f.datum) → ¬ (s ≡ opposite_name f.datum r) → signed_number f.datum s ≢ neg_ℤ (signed_number f.datum r)
  apart_numbers r s apart e =
      let d = f.datum in
      let a = named_is d r in
      let turned = opposite_number d (signed_number d r) a.number in
      apart (same_name d lawful.loaded s (opposite_name d r) (sym (named_is d s).root ∙ ap (root_of d) e ∙ turned.1 ∙ ap opposite a.root ∙ sym (opposite_at d lawful.loaded r)))

  -- the two sides of each relation have one matrix
  pub relation-respected : (l r : Word (setting f)) → Relation (setting f) l r → HaveOneMatrix f v l r
  unfolding torus_one torus_mul
  relation-respected l r (S0-root q) = S0-root-respected f lawful eta v meets q
  relation-respected l r S0-torus = s0-torus-holds f.field v (dim f)
  relation-respected l r (S1 q a b) = S1-respected f lawful eta v meets q a b
  relation-respected l r (S2 q s t u before apart) = S2-respected f lawful eta v meets q s t u before apart (apart_numbers q s apart)
  relation-respected l r (S3 t u) = s3-holds f.field v t.entries u.entries (eqb_yes t.long ∙ sym (eqb_yes u.long))
  relation-respected l r (S4 t q a) =
      let w = numbers f.field t.entries in
      let value : character f.field w (vector f.datum.base (root_of f.datum (signed_number f.datum q))) ≡ (character_at f q t).number =
      ap (λ z. character f.field w (vector f.datum.base z)) (named_is f.datum q).root ∙ sym (character_at-number f q t) in
      s4-holds f.field f.datum v meets.graded w (AreUnits-numbers f.field t.entries) (signed_number f.datum q) (named_is f.datum q).number a.number (elem_of f lawful eta v meets a)
      ∙ ap (λ x. word_matrix f.field v (CodeX (signed_number f.datum q) x ∷ (CodeH w ∷ []))) (ap (λ x. mul f.field.given x a.number) value ∙ sym (elem_mul-number f.field (character_at f q t) a))

module _ (f : SignedFrame) (lawful : IsLawfulSigned f) (v : Module) (meets : MeetsIdentities f.datum f.constants (eta_of f.signs) v) where
  -- the same for all relations, those of the letters n_i included
  group-respected : (l r : Word (setting (unsigned f))) → GroupRelation (setting (unsigned f)) (sign_at f) l r → HaveOneMatrix (unsigned f) v l r
  unfolding sign_at
  group-respected l r (plain q) = relation-respected (unsigned f) lawful.lawful (eta_of f.signs) v meets l r q
  group-respected l r (S5 i) = S5-respected (unsigned f) lawful.lawful v i
  group-respected l r (S5-inverse i) = S5-inverse-respected (unsigned f) lawful.lawful v i
  group-respected l r (S6 i t apart) = S6-respected (unsigned f) lawful.lawful v (eta_of f.signs) meets i t apart
  group-respected l r (S7 i s a) = S7-respected (unsigned f) lawful.lawful v (eta_of f.signs) meets i s a (sign_at f i s) (elem_int-number f.field (eta_of f.signs (suc i.number) (signed_number f.datum s)))

-- joined words have equal matrices
pub equal_matrices : EqualMatrices
equal_matrices f v lawful meets w u j =
    ap (word_matrix f.field v) (sym j.left_spelled)
    ∙ joined-respected (unsigned f) v _ (group-respected f lawful v meets) j.left j.right j.joined
    ∙ ap (word_matrix f.field v) j.right_spelled
