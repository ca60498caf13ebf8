-- The sum is far from the ends of 128 bits.
use Rattle.std.proofs.Common.{◌*ℤ◌, ◌≤◌, unsigned_abs, sym, subst, lit<}
use Rattle.lie_datum.proofs.VectorLemmas.{abs_mul, plain, sum_is, sum_bound}
use Rattle.lie_audit.proofs.entries.add_product.Goals as goal

pub returns-clause-value : goal.returns-clause-value
returns-clause-value c =
    rw (plain c.args.sum 20000000000000 c.requires.sum (lit< tt), plain c.args.factor 601 c.requires.factor (lit< tt), plain c.args.value 100000000 c.requires.value (lit< tt))
    (sum_is c.args.sum (c.args.factor *ℤ c.args.value) 20000000000000 60100000000 c.requires.sum (abs_mul c.args.factor c.args.value 601 100000000 c.requires.factor c.requires.value) (lit< tt))

pub returns-clause-bound : goal.returns-clause-bound
returns-clause-bound c = subst (λ z. unsigned_abs z ≤ 20060100000000) (sym (returns-clause-value c))
    (sum_bound c.args.sum (c.args.factor *ℤ c.args.value) 20000000000000 60100000000 c.requires.sum (abs_mul c.args.factor c.args.value 601 100000000 c.requires.factor c.requires.value) (lit< tt))
