use Rattle.std.proofs.Common.{◌≡◌, ◌∙◌, sym, ap, subst, arith}
use Rattle.lie_ring.specs.Matrices.{AllFit}
use Rattle.lie_mat.specs.Parts.{partial_table}
use Rattle.lie_mat.specs.PartLemmas.{partial-none, partial-row, partial-all, zeros-fit}
use Rattle.lie_mat.proofs.entries.build.Goals as goal

pub loop-row-init : goal.loop-row-init
loop-row-init g c =
    let over = g.E.Entries.over c.args.entries.now in
    let R = g.E.Ring.Ring.ring over in
    let z = g.E.Ring.Ring.zero in
    record {
      partly = c.in-Ok.ensures.value ∙ partial-none z c.args.rows c.args.cols (g.E.Entries.value c.args.entries.now);
      fit = subst (AllFit R) (sym c.in-Ok.ensures.value) (zeros-fit R (g.met.E.Ring.Ring.is_ring over) z (sym (g.met.E.Ring.Ring.one_zero over)) c.args.rows c.args.cols);
    }

pub loop-row-preserved : goal.loop-row-preserved
loop-row-preserved g c = record {
  partly = c.in-Ok-fill_row.ensures.partly ∙ partial-row g.E.Ring.Ring.zero c.args.rows c.args.cols (g.E.Entries.value c.args.entries.now) c.loop-row.row;
  fit = c.in-Ok-fill_row.ensures.fit;
}

pub returns-clause-value : goal.returns-clause-value
returns-clause-value g c =
    let z = g.E.Ring.Ring.zero in
    let f = g.E.Entries.value c.args.entries.now in
    let last : c.loop-row.row ≡ c.args.rows = omega (arith, c.loop-row-test.false, c.loop-row.auto.row-end) in
    c.loop-row.invariant.partly
    ∙ ap (λ i. partial_table z c.args.rows c.args.cols f i 0) last
    ∙ partial-all z c.args.rows c.args.cols f
