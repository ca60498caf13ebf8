use Rattle.std.proofs.Common.{rules, arith, ◌<◌, length}
use Rattle.lie_reply.proofs.RootsLemmas.{root_written}
use Rattle.lie_reply.proofs.texts.roots_text.Goals as goal

pub roots-preserved : goal.roots-preserved
roots-preserved c =
    let lt : c.roots.k < length c.args.datum.now.positive = search rules in
    (omega (arith, lt), root_written c.args.datum.now c.roots.k c.roots.out.items _ _ lt c.roots.invariant.1 c.in_ok-put_root.ensures)
