use Rattle.std.proofs.Common.{◌≡◌, ◌∷◌, ◌++◌, ◌<◌, [], sym, ap, subst, ◌∙◌, arith, append_assoc, pos, nat_abs, ◌^◌}
use mir.Syntax.{w128}
use mir.Val.{to_z, of_z}
use Rattle.std.specs.List.{flat_map, range_with_len}
use Rattle.std.proofs.lemmas.Int.{ints}
use Rattle.std.proofs.lemmas.List.{append-nil}
use Rattle.lie_ring.specs.Matrices.{entry}
use Rattle.lie_identities.specs.StepLists.{step, step_at}
use Rattle.lie_identities.proofs.StepWalks.{step-next, steps-end}
use Rattle.lie_identities.proofs.steps.push_steps.Goals as goal

pub loop-row-init : goal.loop-row-init
loop-row-init c = record { low = omega arith; list = sym (append-nil c.args.steps.now.items) }

pub loop-row-preserved : goal.loop-row-preserved
loop-row-preserved c =
    let v = c.args.«module».now in
    let old = c.args.steps.now.items in
    let f = step_at v c.args.r c.args.col c.args.power in
    let next = c.in-Some.ensures.next in
    let within = next.within in
    let tall = c.power-matrix.ensures.square.height in
    let broad = c.power-matrix.ensures.square.width in
    let col = c.requires.col in
    let fit = (c.power-matrix.ensures.square.fit c.in-Some.row c.args.col within (omega (arith, col, broad))).1 in
    let l : nat_abs c.in-Some.value.now < 2 ^ 126 = subst (λ n. nat_abs n < 2 ^ 126) (sym next.here) fit in
    let back : to_z w128 (of_z w128 c.in-Some.value.now) ≡ c.in-Some.value.now = omega (arith, ints, l) in
    record {
      low = omega (arith, within, tall);
      list =
          c.in_ok-push.ensures.items
          ∙ ap (λ n. c.loop-row.steps.items ++ (step c.args.power c.in-Some.row n ∷ [])) back
          ∙ ap (λ ys. ys ++ (step c.args.power c.in-Some.row c.in-Some.value.now ∷ [])) c.loop-row.invariant.list
          ∙ append_assoc old (flat_map f (range_with_len 0 c.loop-row.from)) (step c.args.power c.in-Some.row c.in-Some.value.now ∷ [])
          ∙ ap (λ ys. old ++ ys) (step-next v c.args.r c.args.col c.args.power c.power-matrix.result.now c.power-matrix.ensures.value c.loop-row.from c.in-Some.row c.in-Some.value.now next);
    }

pub loop-row-smaller : goal.loop-row-smaller
loop-row-smaller c =
    let next = c.in-Some.ensures.next in
    let within = next.within in
    let after = next.after in
    let tall = c.power-matrix.ensures.square.height in
    omega (arith, within, after, tall)

pub returns-clause-value : goal.returns-clause-value
returns-clause-value c =
    c.loop-row.invariant.list
    ∙ ap (λ ys. c.args.steps.now.items ++ ys)
    (steps-end c.args.«module».now c.args.r c.args.col c.args.power c.power-matrix.result.now c.power-matrix.ensures.value c.loop-row.from c.power-matrix.ensures.square.height c.loop-row.invariant.low c.in_default.ensures.next)

pub returns-clause-small : goal.returns-clause-small
returns-clause-small c = λ a l.
    let tall = c.power-matrix.ensures.square.height in
    let broad = c.power-matrix.ensures.square.width in
    let col = c.requires.col in
    let h = (c.power-matrix.ensures.square.fit a c.args.col (omega (arith, l, tall)) (omega (arith, col, broad))).1 in
    subst (λ M. nat_abs (entry (pos 0) M a c.args.col) < 2 ^ 126) c.power-matrix.ensures.value h
