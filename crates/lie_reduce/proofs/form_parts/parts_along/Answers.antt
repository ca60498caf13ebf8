use Rattle.std.proofs.Common.{◌≡◌, ◌∙◌, ap, sym, subst}
use Rattle.std.specs.Prelude.{MatchOption}
use Rattle.lie_ring.specs.Matrices.{product}
use Rattle.lie_field.specs.FieldRing.{field_ring}
use Rattle.lie_const.specs.Modules.{dimension}
use Rattle.lie_letters.specs.Spelled.{reversed}
use Rattle.lie_audit.specs.WordMatrix.{word_matrix}
use Rattle.lie_reduce.specs.Triangular.{IsSquare}
use Rattle.lie_reduce.specs.FormReading.{HasNoLevelFactors, AreOnlyFactors}
use Rattle.lie_reduce.proofs.FormReadingLemmas.{parts-none, parts-some}
use Rattle.lie_reduce.proofs.WordInverses.{matrix-square}
use Rattle.lie_reduce.proofs.form_parts.parts_along.Goals as goal

pub mul-requires-clause-shape : goal.mul-requires-clause-shape
mul-requires-clause-shape c =
    let f = c.args.frame.now in
    ap (λ M. M.width) c.requires.square.shape ∙ sym (ap (λ M. M.height) c.in_ok-inverse.ensures.value ∙ ap (λ M. M.height) (matrix-square f.field c.args.space.now (reversed f.field c.args.turn.now)).shape)

pub turned_back-requires-clause-inverse : goal.turned_back-requires-clause-inverse
turned_back-requires-clause-inverse c =
    let f = c.args.frame.now in
    subst (IsSquare (field_ring f.field) (dimension c.args.space.now)) (sym c.in_ok-inverse.ensures.value) (matrix-square f.field c.args.space.now (reversed f.field c.args.turn.now))

pub returns-in-Some : goal.returns-in-Some
returns-in-Some c =
    let f = c.args.frame.now in
    let v = c.args.space.now in
    let M = c.args.m.now in
    let w = c.args.turn.now in
    let Z = word_matrix f.field v (reversed f.field w) in
    let g = subst (λ z. c.in_ok-g.g ≡ product (field_ring z.field) M c.in_ok-inverse.inverse) c.frame.view_is c.in_ok-g.ensures.value ∙ ap (product (field_ring f.field) M) c.in_ok-inverse.ensures.value in
    let found = subst (λ z. MatchOption c.in_ok-u.field-0 (HasNoLevelFactors z.field z.datum v c.in_ok-g.g) (λ t. AreOnlyFactors z.field z.datum v c.in_ok-g.g t.0 t.1 t.2)) c.frame.view_is c.in_ok-u.ensures in
    let some = subst (λ z. MatchOption z (HasNoLevelFactors f.field f.datum v c.in_ok-g.g) (λ t. AreOnlyFactors f.field f.datum v c.in_ok-g.g t.0 t.1 t.2)) c.in-Some.is found in
    let only = subst (λ G. AreOnlyFactors f.field f.datum v G c.in-Some.u c.in-Some.d c.in-Some.l) g some in
    parts-some f v c.requires.covering M w c.in-Some.u c.in-Some.d c.in-Some.l c.in_ok-v-in-Some.v only
    (c.in_ok-v-in-Some.ensures ∙ ap (λ X. product (field_ring f.field) X (product (field_ring f.field) c.in-Some.l (word_matrix f.field v w))) c.in_ok-inverse.ensures.value)

pub returns : goal.returns
returns c =
    let f = c.args.frame.now in
    let v = c.args.space.now in
    let M = c.args.m.now in
    let g = subst (λ z. c.in_ok-g.g ≡ product (field_ring z.field) M c.in_ok-inverse.inverse) c.frame.view_is c.in_ok-g.ensures.value ∙ ap (product (field_ring f.field) M) c.in_ok-inverse.ensures.value in
    let found = subst (λ z. MatchOption c.in_ok-u.field-0 (HasNoLevelFactors z.field z.datum v c.in_ok-g.g) (λ t. AreOnlyFactors z.field z.datum v c.in_ok-g.g t.0 t.1 t.2)) c.frame.view_is c.in_ok-u.ensures in
    let none = subst (λ z. MatchOption z (HasNoLevelFactors f.field f.datum v c.in_ok-g.g) (λ t. AreOnlyFactors f.field f.datum v c.in_ok-g.g t.0 t.1 t.2)) c.in-None.is found in
    parts-none f v c.requires.covering M c.args.turn.now (subst (HasNoLevelFactors f.field f.datum v) g none)
