use Rattle.std.proofs.Common.{map, sym, subst, arith}
use Rattle.lie_const.specs.Modules.{dimension}
use Rattle.lie_identities.specs.Actions.{factor_of}
use Rattle.lie_identities.specs.Audit.{laurent_variables}
use Rattle.lie_identities.specs.Columns.{side_column, IsColumn}
use Rattle.lie_identities.proofs.ActionLemmas.{side-is_column, as_tall}
use Rattle.lie_identities.proofs.compare.compare_on.Goals as goal

pub compare_columns-requires : goal.compare_columns-requires
compare_columns-requires c =
    let s = c.args.steps.now in
    let d = s.datum.now in
    let v = s.module.now in
    let left = side-is_column d v c.args.left.now c.args.col s.pairings s.small c.requires.left c.requires.col in
    let right = side-is_column d v c.args.right.now c.args.col s.pairings s.small c.requires.right c.requires.col in
    let x = let g : IsColumn (dimension v) c.in_ok-x.x = subst (IsColumn (dimension v)) (sym c.in_ok-x.ensures) left in g in
    let l = c.requires.col in
    let t = s.thin in
    record {
      left = as_tall (dimension v) (side_column laurent_variables d v (map factor_of c.args.left.now) c.args.col) c.in_ok-x.x c.in_ok-x.x left x c.in_ok-x.ensures;
      right = as_tall (dimension v) (side_column laurent_variables d v (map factor_of c.args.right.now) c.args.col) c.in_ok-x.x c.in_ok-y.y right x c.in_ok-y.ensures;
      col = omega (arith, l, t);
    }
