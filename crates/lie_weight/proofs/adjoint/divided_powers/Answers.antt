-- The third matrix is kept where it is not 0.
use Rattle.std.proofs.Common.{pos, refl, sym, ap₂, ◌∙◌}
use Rattle.std.proofs.lemmas.Bool.{false≢true}
use Rattle.lie_ring.specs.Matrices.{zero_matrix}
use Rattle.lie_const.specs.ConstantTables.{value_of}
use Rattle.lie_weight.proofs.MatrixLists.{two_divided, three_divided}
use Rattle.lie_weight.proofs.adjoint.divided_powers.Goals as goal

pub same-requires-clause-b_fit : goal.same-requires-clause-b_fit
same-requires-clause-b_fit c = c.in_ok-zero.ensures.fit (record {})

pub returns-then-same : goal.returns-then-same
returns-then-same c =
    let d = c.args.datum.now in
    let n = value_of c.args.consts.now in
    let is = c.in_ok-zero.ensures.value ∙ ap₂ (zero_matrix (pos 0)) c.dimension-n.ensures.value c.dimension-n.ensures.value in
    two_divided d n c.args.r c.loaded.ensures c.requires.number c.in_ok-powers.powers.items c.in_ok-third.third c.in_ok-powers.ensures c.in_ok-third.ensures (c.if-same.ensures.0 refl ∙ is)

pub returns : goal.returns
returns c =
    let d = c.args.datum.now in
    let n = value_of c.args.consts.now in
    let is = c.in_ok-zero.ensures.value ∙ ap₂ (zero_matrix (pos 0)) c.dimension-n.ensures.value c.dimension-n.ensures.value in
    three_divided d n c.args.r c.loaded.ensures c.requires.number c.in_ok-powers.powers.items c.push.new.self.items c.in_ok-third.third c.in_ok-powers.ensures c.in_ok-third.ensures
    (λ e. false≢true (c.if-same.ensures.1 (e ∙ sym is))) c.in_ok-push.ensures.items
