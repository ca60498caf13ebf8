use Rattle.std.proofs.Common.{◌≡◌, ◌∙◌, ◌+◌, ◌*◌, ◌<◌, ◌≤◌, ◌^◌, ◌⊎◌, ℕ, Err, sym, ap, subst, arith}
use Rattle.lie_ring.specs.Matrices.{entry, product_term}
use Rattle.lie_ring.specs.declared.rings.RingStop.{RingStop}
use Rattle.lie_mat.specs.Wide.{nat_sum_below, product_term_size}
use Rattle.lie_mat.specs.Kept.{AreZeros, IsNextKept}
use Rattle.lie_mat.proofs.Products.{wide_step}
use Rattle.lie_mat.proofs.KeptLemmas.{sum-to, size-to, sum-more, size-more, told-err}
use Rattle.lie_mat.proofs.sums.sum_of_products.Goals as goal

pub loop-mid-preserved : goal.loop-mid-preserved
loop-mid-preserved g c =
    let r = c.args.ring.now in
    let R = g.R.Ring.ring r in
    let ring = g.met.R.Ring.is_ring r in
    let z = g.R.Ring.zero in
    let M = c.args.first.now in
    let N = c.args.second.now in
    let i = c.args.row in
    let j = c.args.col in
    let from = c.loop-mid.from in
    let mid = c.in-Some.mid in
    let s = c.loop-mid.sum in
    let kept : IsNextKept R.zero N j from mid c.in-Some.y.now = subst (λ x. IsNextKept x N j from mid c.in-Some.y.now) (sym (g.met.R.Ring.one_zero r)) c.in-Some.ensures.next in
    let within : mid < M.width = omega (arith, kept.within, c.requires.shape) in
    let elem = λ (k : ℕ) (p : k < M.width). (c.requires.first_fit i k c.requires.row p).0 in
    let fits = c.loop-mid.invariant.fits in
    let before = sum-to R ring M N i j from mid kept.after kept.before elem (omega (arith, within)) s c.loop-mid.invariant.value fits.0 in
    let added : c.in_ok-sum-2.sum ≡ R.add s (product_term R M N i j mid) = c.in_ok-sum-2.ensures.value ∙ ap (λ y. R.add s (R.mul (entry R.zero M i mid) y)) kept.here in
    let size = size-to R ring M N i j from mid kept.after kept.before elem (omega (arith, within)) s c.loop-mid.invariant.size in
    record {
      within = omega (arith, kept.within);
      value = added ∙ ap (λ x. R.add x (product_term R M N i j mid)) (sym before) ∙ sym (sum-more R mid (product_term R M N i j));
      fits = c.in_ok-sum-2.ensures.fits;
      size = subst (λ x. R.size x ≤ nat_sum_below (mid + 1) (product_term_size R M N i j)) (sym added) (size-more R ring M N i j mid s fits.0 (elem mid within) (c.requires.second_fit mid j kept.within c.requires.col).0 size);
    }

pub returns-clause-value : goal.returns-clause-value
returns-clause-value g c =
    let r = c.args.ring.now in
    let R = g.R.Ring.ring r in
    let ring = g.met.R.Ring.is_ring r in
    let M = c.args.first.now in
    let N = c.args.second.now in
    let i = c.args.row in
    let j = c.args.col in
    let from = c.loop-mid.from in
    let none : AreZeros R.zero N j from M.width =
    λ k a b. subst (λ x. entry x N k j ≡ x) (sym (g.met.R.Ring.one_zero r)) (c.in_default.ensures.next k a (omega (arith, b, c.requires.shape))) in
    sym (sum-to R ring M N i j from M.width (omega (arith, c.loop-mid.invariant.within, c.requires.shape)) none
    (λ k p. (c.requires.first_fit i k c.requires.row p).0) (omega arith) c.loop-mid.sum c.loop-mid.invariant.value c.loop-mid.invariant.fits.0)

pub returns-in_err-sum-2-clause-wide : goal.returns-in_err-sum-2-clause-wide
returns-in_err-sum-2-clause-wide g c = λ is.
    let r = c.args.ring.now in
    let R = g.R.Ring.ring r in
    let ring = g.met.R.Ring.is_ring r in
    let z = g.R.Ring.zero in
    let M = c.args.first.now in
    let N = c.args.second.now in
    let i = c.args.row in
    let j = c.args.col in
    let from = c.loop-mid.from in
    let mid = c.in-Some.mid in
    let s = c.loop-mid.sum in
    let y = c.in-Some.y.now in
    let kept : IsNextKept R.zero N j from mid y = subst (λ x. IsNextKept x N j from mid y) (sym (g.met.R.Ring.one_zero r)) c.in-Some.ensures.next in
    let within : mid < M.width = omega (arith, kept.within, c.requires.shape) in
    let elem = λ (k : ℕ) (p : k < M.width). (c.requires.first_fit i k c.requires.row p).0 in
    let size = size-to R ring M N i j from mid kept.after kept.before elem (omega (arith, within)) s c.loop-mid.invariant.size in
    let stopped = told-err c.from_residual-in_err-sum-2.result _ RingStop.Wide c.from_residual-in_err-sum-2.ensures.1 is in
    let x = entry R.zero M i mid in
    wide_step R M N i j mid s within size
    (subst (λ y. (2 ^ 126 ≤ R.size s + R.size x * R.size y) ⊎ (2 ^ 30 ≤ R.degree x + R.degree y)) kept.here
    (c.add_product.ensures.wide (c.in_err-sum-2.was ∙ ap Err (sym stopped))))
