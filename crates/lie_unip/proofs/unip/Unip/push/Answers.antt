use Rattle.std.proofs.Common.{length, reverse, sym, subst}
use Rattle.lie_letters.specs.RingLetters.{IsRingWord}
use Rattle.lie_unip.proofs.DatumLemmas.{number_within}
use Rattle.lie_unip.proofs.unip.Unip.push.Goals as goal

pub collect_in_order-requires-clause-todo : goal.collect_in_order-requires-clause-todo
collect_in_order-requires-clause-todo g c =
    let bound = number_within c.args.datum.now c.args.r c.requires.root in
    subst (λ w. IsRingWord (g.R.Ring.ring c.args.ring.now) (length c.args.datum.now.positive) (reverse w)) (sym c.in_ok-todo.ensures)
    ((c.requires.fits.0, tt), (bound.0, bound.1, tt))
