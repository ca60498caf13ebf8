use Rattle.std.proofs.Common.{◌≡◌, ◌*◌, ◌^◌, pos, neg_ℤ, sym, ap, subst, ◌∙◌, arith}
use Rattle.lie_datum.specs.Vectors.{plus, times}
use Rattle.lie_datum.specs.RootDatum.{IsWithin}
use Rattle.lie_orbit.proofs.WeightLemmas.{within_more}
use Rattle.lie_identities.specs.Covers.{less_axis}
use Rattle.lie_identities.proofs.CoverLemmas.{multiple_within, less_within}
use Rattle.lie_identities.proofs.covering.less_axis.Goals as goal

pub less_multiple-requires-clause-weight : goal.less_multiple-requires-clause-weight
less_multiple-requires-clause-weight c =
    let x = c.args.weight.now in
    subst (IsWithin (25 * 10 ^ 31)) (sym c.multiple.ensures) (within_more 8000000 (25 * 10 ^ 31) (times (pos c.args.times) x) (omega arith) (multiple_within c.args.times x c.requires.times c.requires.weight))

pub returns-clause-bound : goal.returns-clause-bound
returns-clause-bound c =
    let x = c.args.weight.now in
    let value : c.less_multiple.result ≡ less_axis c.args.times x c.args.axis =
    c.less_multiple.ensures ∙ ap (λ t. plus t (times (neg_ℤ (pos 1)) c.unit.result)) c.multiple.ensures ∙ ap (λ t. plus (times (pos c.args.times) x) (times (neg_ℤ (pos 1)) t)) c.unit.ensures in
    subst (IsWithin 8000001) (sym value) (less_within c.args.times x c.args.axis c.requires.times c.requires.weight)
