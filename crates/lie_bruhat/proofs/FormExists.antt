-- Each word of a lawful frame has a form.
use Rattle.std.proofs.Common.{[], ◌∷◌, ◌++◌, ap, subst}
use Rattle.std.proofs.lemmas.List.{append-nil}
use Rattle.lie_letters.specs.Frames.{setting, dim}
use Rattle.lie_letters.specs.Torus.{torus_one}
use Rattle.lie_letters.specs.Letters.{Word, H}
use Rattle.lie_letters.specs.SignedFrames.{SignedFrame, unsigned, sign_at, IsLawfulSigned}
use Rattle.lie_letters.specs.GroupRelations.{GroupJoined}
use Rattle.lie_letters.proofs.ChainLemmas.{trans, flip}
use Rattle.lie_letters.proofs.SettingLaws.{frame_laws}
use Rattle.lie_letters.proofs.SpelledLemmas.{word_of}
use Rattle.lie_unip.specs.Forms.{EveryWordHasForm}
use Rattle.lie_bruhat.specs.WeylWords.{n_word}
use Rattle.lie_bruhat.proofs.RuleLemmas.{torus_drop}
use Rattle.lie_bruhat.proofs.ShapeLemmas.{Shape, shape, takes_word}
use Rattle.lie_bruhat.proofs.FrameSigns.{sign_laws}
use Rattle.lie_bruhat.proofs.FrameShapes.{frame_facts}
use Rattle.lie_bruhat.proofs.FormShapes.{form_of, is_form, shape_word}

-- the shape of the empty word
abbrev empty_shape : (f : SignedFrame) → Shape (setting (unsigned f))
empty_shape f = record { left = []; torus = torus_one f.field (dim (unsigned f)); path = []; right = [] }

-- what a shape is joined to
abbrev shape_of : (f : SignedFrame) (lawful : IsLawfulSigned f) (s : Shape (setting (unsigned f))) → Word (setting (unsigned f))
shape_of f lawful s = shape (setting (unsigned f)) (sign_at f) (frame_laws (unsigned f) lawful.lawful) (sign_laws f lawful) (frame_facts f lawful) s []

pub every_word : EveryWordHasForm
every_word f w lawful over =
    let S = setting (unsigned f) in
    let laws = frame_laws (unsigned f) lawful.lawful in
    let signs = sign_laws f lawful in
    let facts = frame_facts f lawful in
    let (u, spelling) = word_of (unsigned f) w over in
    let (s, good, taken) = takes_word S (sign_at f) laws signs facts (empty_shape f) u (tt, tt) in
    let none = ap (n_word S) facts.best_none in
    let start : GroupJoined S (sign_at f) (H (torus_one f.field (dim (unsigned f))) ∷ u) (shape_of f lawful s) =
    subst (λ z. GroupJoined S (sign_at f) (H (torus_one f.field (dim (unsigned f))) ∷ (z ++ u)) (shape_of f lawful s)) none
    (subst (λ z. GroupJoined S (sign_at f) (H (torus_one f.field (dim (unsigned f))) ∷ (n_word S (facts.best []) ++ z)) (shape_of f lawful s)) (append-nil u) (taken [])) in
    let whole = trans (flip (torus_drop S (sign_at f) laws u)) start in (
      form_of f lawful s good,
      record {
        form = is_form f lawful s good;
        joined = λ p shortest.
            (let word = shape_word f lawful s good p shortest in
            record { left = word.word; right = u; left_spelled = word.word_spelled; right_spelled = spelling; joined = trans word.joined (flip whole) });
      },
    )
