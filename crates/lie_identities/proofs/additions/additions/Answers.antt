use Rattle.std.proofs.Common.{◌+◌, ◌≤◌, ◌++◌, map, sym, ap, subst, ◌∙◌, arith}
use Rattle.lie_const.specs.Modules.{dimension, top}
use Rattle.lie_poly.specs.Polynomials.{laurent}
use Rattle.lie_identities.specs.Moves.{base_of, AreNarrowSteps, AddsRows, addition}
use Rattle.lie_identities.specs.StepLists.{steps_of}
use Rattle.lie_identities.proofs.RowLemmas.{rows-next, rows-end}
use Rattle.lie_identities.proofs.additions.additions.Goals as goal

pub loop-row-preserved : goal.loop-row-preserved
loop-row-preserved c =
    let v = c.args.steps.now.module.now in
    let r = c.args.r in
    let f = base_of c.args.powers.now in
    let V = c.args.column.now in
    let ready = c.requires.ready in
    let next = c.in-Some.ensures.next in
    let row = c.in-Some.row in
    let x = c.in-Some.entry.now in
    let h = ready.column.height in
    let within = next.within in
    let low = let g : row + 1 ≤ dimension v = omega (arith, within, h) in g in
    let narrow = subst (λ y. AreNarrowSteps f (top v r) y (steps_of v r row)) (sym next.here) (ready.steps row (omega (arith, within, h))) in
    let made = c.in_ok-push_additions.ensures ∙ ap (λ ss. c.loop-row.additions.items ++ map (addition laurent f x) ss) c.column.ensures in
    record {
      low = low;
      adds = subst (AddsRows v r f V (row + 1)) (sym made) (rows-next v r f V ready.column c.loop-row.from row x c.loop-row.additions.items narrow c.loop-row.invariant.adds next);
    }

pub returns : goal.returns
returns c =
    let v = c.args.steps.now.module.now in
    rows-end v c.args.r (base_of c.args.powers.now) c.args.column.now c.requires.ready.column c.loop-row.from c.loop-row.additions.items c.loop-row.invariant.low c.in_default.ensures.next c.loop-row.invariant.adds
