use Rattle.std.proofs.Common.{◌∙◌, sym, ap, subst, IfSome}
use Rattle.std.specs.Option.{unwrap_or}
use Rattle.lie_ring.specs.Rings.{Fits}
use Rattle.lie_ring.specs.Matrices.{with_entry, AllFit}
use Rattle.lie_mat.specs.Parts.{partial_table}
use Rattle.lie_mat.specs.PartLemmas.{partial-step, with_entry-fit}
use Rattle.lie_mat.proofs.entries.fill_entry.Goals as goal

pub returns-in-Ok-clause-partly : goal.returns-in-Ok-clause-partly
returns-in-Ok-clause-partly g c =
    let z = g.E.Ring.Ring.zero in
    let f = g.E.Entries.value c.args.entries.now in
    c.in-Ok.ensures.ok
    ∙ ap (λ M. with_entry z M c.args.row c.args.col c.in-Ok-Some.e) c.requires.partly
    ∙ ap (with_entry z (partial_table z c.args.rows c.args.cols f c.args.row c.args.col) c.args.row c.args.col) (sym (ap (λ o. unwrap_or o z) c.in-Ok-Some.field-0-is) ∙ c.in-Ok-Some.ensures.value)
    ∙ partial-step z c.args.rows c.args.cols f c.args.row c.args.col c.requires.row c.requires.col

pub returns-in-Ok-clause-fit : goal.returns-in-Ok-clause-fit
returns-in-Ok-clause-fit g c =
    let over = g.E.Entries.over c.args.entries.now in
    let R = g.E.Ring.Ring.ring over in
    let fits = subst (λ o. IfSome o (Fits R)) c.in-Ok-Some.field-0-is c.in-Ok-Some.ensures.fits in
    subst (AllFit R) (sym c.in-Ok.ensures.ok)
    (with_entry-fit R (g.met.E.Ring.Ring.is_ring over) g.E.Ring.Ring.zero (sym (g.met.E.Ring.Ring.one_zero over)) c.args.matrix.now c.args.row c.args.col c.in-Ok-Some.e fits c.requires.fit)
