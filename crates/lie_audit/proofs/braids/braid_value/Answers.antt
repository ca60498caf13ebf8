-- One letter more.
use Rattle.std.proofs.Common.{◌≡◌, suc, ◌+◌, ◌-◌, sym, ap, ◌∙◌, arith}
use Rattle.lie_datum.specs.RootDatum.{reflected}
use Rattle.lie_datum.specs.RootList.{root_of}
use Rattle.lie_const.specs.Signs.{eta_of, image}
use Rattle.lie_weight.proofs.NumberOf.{number_of-root}
use Rattle.lie_audit.proofs.BraidLemmas.{carried-next}
use Rattle.lie_audit.proofs.braids.braid_value.Goals as goal

pub loop-step-preserved : goal.loop-step-preserved
loop-step-preserved c =
    let d = c.args.datum.now in
    let l = c.loop-step in
    let image_is : image d l.letter l.root ≡ c.reflect-root.result =
    number_of-root d c.loaded.ensures (reflected d.base l.letter (root_of d l.root)).coeffs c.reflect-root.result c.reflect-root.ensures.number (ap (λ r. r.coeffs) c.reflect-root.ensures.root) in
    let m = c.order-step-end.result in
    let left : m - l._step ≡ suc (m - (l._step + 1)) = let t = c.loop-step-test.true in omega (arith, t) in
    record {
      root = c.reflect-root.ensures.number;
      letter = l.invariant.other;
      other = l.invariant.letter;
      carried = carried-next d (eta_of c.args.signs.now) l.letter l.other (m - l._step) (m - (l._step + 1)) l.root c.reflect-root.result l.minus c.is_minus-minus.result left (sym image_is) c.is_minus-minus.ensures ∙ l.invariant.carried;
    }
