-- The column of e_r is 0.
use Rattle.std.proofs.Common.{sym, ap, ◌∙◌}
use Rattle.std.proofs.lemmas.Bool.Decides.{Decides-int_eq}
use Rattle.lie_const.specs.ConstantTables.{value_of}
use Rattle.lie_const.specs.Adjoint.{basis_place}
use Rattle.lie_weight.specs.AdjointParts.{power_entry}
use Rattle.lie_weight.proofs.SpecialColumns.{own_column}
use Rattle.lie_weight.proofs.Partials.{none_written}
use Rattle.lie_weight.proofs.adjoint.fill_column.Goals as goal

pub returns-then-eq : goal.returns-then-eq
returns-then-eq c =
    let d = c.args.datum.now in
    let n = value_of c.args.consts.now in
    none_written d n c.args.r c.args.k c.args.matrix.now c.args.col c.requires.partly
    (λ j l. ap (power_entry d n c.args.r c.args.k j) (c.in-Root.ensures.1 ∙ ap (basis_place d) ((Decides-int_eq c.in-Root.s c.args.r).0 (sym c.if-eq.ensures))) ∙ own_column d c.loaded.ensures n c.args.r c.requires.number c.args.k j c.requires.first l)
