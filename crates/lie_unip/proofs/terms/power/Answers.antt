use Rattle.std.proofs.Common.{sym, ap, ◌∙◌, add-one}
use Rattle.lie_letters.specs.RingLetters.{power}
use Rattle.lie_unip.proofs.TermLemmas.{first_power}
use Rattle.lie_unip.proofs.terms.power.Goals as goal

pub loop-init : goal.loop-init
loop-init g c =
    let R = g.R.Ring.ring c.args.ring.now in
    record {
      value = c.in_ok-product.ensures.value ∙ first_power R (g.met.R.Ring.is_ring c.args.ring.now) c.args.a.now c.requires.a.0;
      fits = c.in_ok-product.ensures.fits;
    }

pub loop-preserved : goal.loop-preserved
loop-preserved g c =
    let R = g.R.Ring.ring c.args.ring.now in
    record {
      value = c.in_ok-product-2.ensures.value ∙ ap (λ x. R.mul x c.args.a.now) c.loop.invariant.value ∙ ap (power R c.args.a.now) (sym (add-one c.loop.counter));
      fits = c.in_ok-product-2.ensures.fits;
    }
