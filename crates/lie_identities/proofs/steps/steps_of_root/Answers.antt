use Rattle.std.proofs.Common.{◌≡◌, ◌∷◌, [], ◌++◌, map, sym, ap, ap₂, subst, ◌∙◌, arith, below_more}
use Rattle.std.specs.List.{range_with_len}
use Rattle.std.proofs.lemmas.List.{map-append}
use Rattle.std.proofs.lemmas.List.FromFn.{map-range_with_len_more}
use Rattle.lie_const.specs.Modules.{dimension, top}
use Rattle.lie_identities.specs.StepLists.{steps_of, HasSmallColumn, HasSmallColumns}
use Rattle.lie_identities.proofs.steps.steps_of_root.Goals as goal

pub loop-col-preserved : goal.loop-col-preserved
loop-col-preserved c =
    let v = c.args.«module».now in
    let f = steps_of v c.args.r in
    let i = c.loop-col.invariant in
    record {
      lists =
          ap (map (λ s. s.items)) c.in_ok-push.ensures.items
          ∙ map-append (λ s. s.items) c.loop-col.columns.items (c.in_ok-steps_of_column.field-0 ∷ [])
          ∙ ap₂ (λ ys x. ys ++ x ∷ []) i.lists c.in_ok-steps_of_column.ensures.value
          ∙ sym (map-range_with_len_more f 0 c.loop-col.col c.loop-col.col (omega arith));
      small = below_more (λ b. HasSmallColumn v c.args.r (top v c.args.r) b) c.loop-col.col i.small
          (subst (λ n. HasSmallColumn v c.args.r n c.loop-col.col) c.top-count.ensures.value c.in_ok-steps_of_column.ensures.small);
    }

pub returns-clause-few : goal.returns-clause-few
returns-clause-few c =
    let b = c.top-count.ensures.bound in
    let e = c.top-count.ensures.value in
    let d = c.requires.dim in
    let f = c.requires.few in
    omega (arith, b, e, d, f)

pub returns-clause-small : goal.returns-clause-small
returns-clause-small c =
    let t = c.loop-col-test.false in
    let a = c.loop-col.auto.col-end in
    let d = c.requires.dim in
    subst (HasSmallColumns c.args.«module».now c.args.r) (let e : c.loop-col.col ≡ dimension c.args.«module».now = omega (arith, t, a, d) in e) c.loop-col.invariant.small

pub returns-clause-value : goal.returns-clause-value
returns-clause-value c =
    let t = c.loop-col-test.false in
    let a = c.loop-col.auto.col-end in
    let d = c.requires.dim in
    c.loop-col.invariant.lists ∙ ap (λ n. map (steps_of c.args.«module».now c.args.r) (range_with_len 0 n)) (let e : c.loop-col.col ≡ dimension c.args.«module».now = omega (arith, t, a, d) in e)
