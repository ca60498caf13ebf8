use Rattle.std.proofs.Common.{ℕ, sym, ap, ◌∙◌, subst}
use Rattle.std.specs.Option.{option_copied}
use Rattle.lie_audit.specs.WordMatrix.{IsWordFor, word_matrix}
use Rattle.lie_const.specs.Modules.{Module, IsModule}
use Rattle.lie_datum.specs.RootList.{RootDatum, IsLoaded}
use Rattle.lie_field.specs.FiniteField.{FiniteField}
use Rattle.lie_letters.specs.SignedFrames.{SignedFrame}
use Rattle.lie_reply.specs.Modules.{matrix_text}
use Rattle.lie_ring.specs.Matrices.{Matrix}
use Rattle.lie_session.specs.Held.{LoadedGroup}
use Rattle.lie_session.proofs.BlockLemmas.{says_matrix, says_nothing}
use Rattle.lie_session.proofs.StageLemmas.{audited_held}
use Rattle.lie_session.proofs.group.LoadedGroup.matrix.Goals as goal

pub word_matrix-requires-clause-space : goal.word_matrix-requires-clause-space
word_matrix-requires-clause-space c =
    let a = c.in-Some.space.now in
    let held = audited_held c.self.inside.group.frame c.self.inside.modules.entries c.args.name.now a c.self.invariant.audited (sym c.find.ensures ∙ ap option_copied c.in-Some.is) in
    let frame = c.frame.view_is ∙ c.frame-frame.ensures ∙ sym (ap (λ (g : LoadedGroup). g.frame) c.self.view_is) in
    subst (λ (v : Module). IsModule c.frame.inside.datum v) (sym c.module.ensures.value)
    (subst (λ (D : RootDatum). IsModule D a.module) (held.datum ∙ sym (ap (λ (f : SignedFrame). f.datum) frame)) c.module.ensures.audited.shape)

pub word_matrix-requires-clause-word : goal.word_matrix-requires-clause-word
word_matrix-requires-clause-word c =
    let w = c.args.w.now in
    subst (λ (f : SignedFrame). IsLoaded f.datum → IsWordFor f.field f.datum w) (sym (c.frame.view_is ∙ c.frame-frame.ensures)) c.requires c.loaded.ensures

pub returns-in_default : goal.returns-in_default
returns-in_default c =
    says_nothing c.args.self.now c.self.inside.modules.entries (ap (λ (g : LoadedGroup). g.modules) c.self.view_is) c.args.name.now c.args.w.now (sym c.find.ensures ∙ ap option_copied c.in_default.is)

pub returns : goal.returns
returns c =
    let g = c.args.self.now in
    let w = c.args.w.now in
    let field = ap (λ (f : SignedFrame). f.field) (c.frame.view_is ∙ c.frame-frame.ensures) in
    let product = c.in_ok-matrix.ensures.value ∙ ap (λ (F : FiniteField). word_matrix F c.module.result.now w) field ∙ ap (λ (v : Module). word_matrix g.frame.field v w) c.module.ensures.value in
    says_matrix g c.self.inside.modules.entries (ap (λ (g : LoadedGroup). g.modules) c.self.view_is) c.args.name.now w c.in-Some.space.now c.in_ok-matrix_text.field-0
    (sym c.find.ensures ∙ ap option_copied c.in-Some.is) (c.in_ok-matrix_text.ensures ∙ ap (λ (M : Matrix ℕ). matrix_text M) product)
