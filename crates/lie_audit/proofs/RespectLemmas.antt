-- Words that are joined by relations which have equal matrices have equal matrices.
use Rattle.std.proofs.Common.{◌≡◌, ◌++◌, map, refl, sym, ap, ◌∙◌}
use Rattle.std.proofs.lemmas.List.{map-append}
use Rattle.lie_ring.specs.Matrices.{product}
use Rattle.lie_field.specs.FieldRing.{field_ring}
use Rattle.lie_const.specs.Modules.{Module}
use Rattle.lie_letters.specs.Chains.{StepBy, forward, backward, JoinedBy, same, next}
use Rattle.lie_letters.specs.Frames.{FrameData, setting}
use Rattle.lie_letters.specs.Letters.{Word}
use Rattle.lie_letters.specs.Spelled.{spelled}
use Rattle.lie_audit.specs.WordMatrix.{word_matrix}
use Rattle.lie_audit.proofs.WordMatrixLemmas.{word-joined}

module _ (f : FrameData) (v : Module) where
  -- the words have one matrix
  abbrev pub HaveOneMatrix : Word (setting f) → Word (setting f) → Type 0
  HaveOneMatrix u w = word_matrix f.field v (map (spelled f) u) ≡ word_matrix f.field v (map (spelled f) w)

  -- the matrix of a word in three parts
  parts : (a b c : Word (setting f)) → word_matrix f.field v (map (spelled f) (a ++ (b ++ c)))
      ≡ product (field_ring f.field) (word_matrix f.field v (map (spelled f) a)) (product (field_ring f.field) (word_matrix f.field v (map (spelled f) b)) (word_matrix f.field v (map (spelled f) c)))
  parts a b c =
      ap (word_matrix f.field v) (map-append (spelled f) a (b ++ c))
      ∙ word-joined f.field v (map (spelled f) a) (map (spelled f) (b ++ c))
      ∙ ap (product (field_ring f.field) (word_matrix f.field v (map (spelled f) a)))
      (ap (word_matrix f.field v) (map-append (spelled f) b c) ∙ word-joined f.field v (map (spelled f) b) (map (spelled f) c))

  -- inside a word
  inside : (a l r c : Word (setting f)) → HaveOneMatrix l r → HaveOneMatrix (a ++ (l ++ c)) (a ++ (r ++ c))
  inside a l r c e =
      parts a l c
      ∙ ap (λ M. product (field_ring f.field) (word_matrix f.field v (map (spelled f) a)) (product (field_ring f.field) M (word_matrix f.field v (map (spelled f) c)))) e
      ∙ sym (parts a r c)

  module _ (R : Word (setting f) → Word (setting f) → Type 0) (respects : (l r : Word (setting f)) → R l r → HaveOneMatrix l r) where
    -- one exchange
    step : (u w : Word (setting f)) → StepBy R u w → HaveOneMatrix u w
    step u w (forward {l = l} {r = r} a c e) = inside a l r c (respects l r e)
    step u w (backward {l = l} {r = r} a c e) = inside a r l c (sym (respects l r e))

    -- along a chain
    pub joined-respected : (u w : Word (setting f)) → JoinedBy R u w → HaveOneMatrix u w
    joined-respected u w same = refl
    joined-respected u w (next {v = x} s rest) = step u x s ∙ joined-respected x w rest
