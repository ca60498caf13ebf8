use Rattle.std.proofs.Common.{get_or, take, [], sym, ap, ◌∙◌, arith, List}
use Rattle.std.proofs.lemmas.List.{take_more}
use Rattle.std.specs.Ordering.{int_eq}
use Rattle.indexmap.specs.IndexMap.{get}
use lib.Pointwise.{pointwise}
use Rattle.lie_datum.specs.Vectors.{plus}
use Rattle.lie_datum.specs.RootDatum.{Root}
use Rattle.lie_datum.specs.Grids.{grid}
use Rattle.lie_datum.proofs.TableFilling.{row_more, row_whole}
use Rattle.lie_datum.proofs.tables.sums.Goals as goal

abbrev no_root : Root
no_root = record { coeffs = []; co_coeffs = [] }

pub plus-requires-clause-x : goal.plus-requires-clause-x
plus-requires-clause-x c = (c.requires c.loop-r.r-index no_root (omega arith)).0

pub plus-requires-clause-y : goal.plus-requires-clause-y
plus-requires-clause-y c = (c.requires c.loop-s.s-index no_root (omega arith)).0

pub loop-s-preserved : goal.loop-s-preserved
loop-s-preserved c =
    let rs = c.args.roots.now in
    let f = λ (r s : Root). get (pointwise int_eq) c.args.names.now (plus r.coeffs s.coeffs) in
    let name = c.copied.ensures ∙ c.get.ensures.value ∙ ap (get (pointwise int_eq) c.args.names.now) c.plus.ensures in
    row_more (f (get_or rs c.loop-r.r-index no_root)) (grid f (take c.loop-r.r-index rs) rs) c.loop-s.list.items c.push.new.self.items rs c.loop-s.s-index no_root c.copied.result (omega arith)
    c.loop-s.invariant c.in_ok-push.ensures.items name

pub loop-r-preserved : goal.loop-r-preserved
loop-r-preserved c =
    let rs = c.args.roots.now in
    let f = λ (r s : Root). get (pointwise int_eq) c.args.names.now (plus r.coeffs s.coeffs) in
    let whole = row_whole f (take c.loop-r.r-index rs) (get_or rs c.loop-r.r-index no_root) rs c.loop-s.s-index c.loop-s.list.items (omega arith) c.loop-s.invariant in
    whole ∙ ap (λ (ts : List Root). grid f ts rs) (sym (take_more rs c.loop-r.r-index no_root (omega arith)))
