use Rattle.std.proofs.Common.{◌≡◌, get_or, take, length, [], ◌∷◌, ◌++◌, sym, ap, subst, ◌∙◌, arith, List, Some, cond, length-take}
use Rattle.std.proofs.lemmas.List.{take_more}
use Rattle.std.specs.Ordering.{int_eq}
use Rattle.indexmap.specs.IndexMap.{get}
use lib.Pointwise.{pointwise}
use Rattle.lie_datum.specs.Vectors.{Vector}
use Rattle.lie_datum.specs.Numbers.{number_at}
use Rattle.lie_datum.specs.Grids.{IsIndexed}
use Rattle.lie_datum.proofs.TableFilling.{more_index}
use Rattle.lie_datum.proofs.tables.numbers.Goals as goal

pub loop-k-preserved : goal.loop-k-preserved
loop-k-preserved c = λ v.
    let vs = c.args.vectors.now in
    let m = c.args.positive in
    let k = c.loop-k.k in
    let w = get_or vs k [] in
    let old = get (pointwise int_eq) c.loop-k.names v in
    let new = get (pointwise int_eq) c.insert.new.self v in
    let long : length (take k vs) ≡ k = length-take k vs ∙ omega arith in
    subst (λ (ts : List Vector). IsIndexed m ts v new) (sym (take_more vs k [] (omega arith)))
    (subst (IsIndexed m (take k vs ++ w ∷ []) v)
    (sym (c.in_ok-insert.ensures.updates.0 v ∙ ap (λ t. cond (pointwise int_eq w v) (Some t) old) (c.at.ensures ∙ ap (number_at m) (sym long))))
    (more_index m (take k vs) w v old (c.loop-k.invariant v)))
