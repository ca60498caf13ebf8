use Rattle.std.proofs.Common.{◌≡◌, suc, ◌+◌, ◌≤◌, pos, ◌*ℤ◌, unsigned_abs, sym, ap, subst, ◌∙◌, arith, lit<}
use Rattle.lie_ring.specs.Matrices.{entry}
use Rattle.lie_datum.proofs.VectorLemmas.{plain, product_plain}
use Rattle.lie_const.specs.Modules.{divided_power}
use Rattle.lie_weight.proofs.elements.power_term.Goals as goal
use Rattle.lie_weight.proofs.elements.power_term.Goals.{After-signed}

entry_is : (c : After-signed) → c.in-Some.e.now ≡ entry (pos 0) (divided_power c.args.space.now c.args.root (suc c.args.k)) c.args.row c.args.col
entry_is c =
    let next : c.args.k + 1 ≡ suc c.args.k = omega arith in
    c.in-Some.ensures.some ∙ ap (λ M. entry (pos 0) M c.args.row c.args.col) (c.power.ensures.value ∙ ap (divided_power c.args.space.now c.args.root) next)

entry_small : (c : After-signed) → unsigned_abs c.in-Some.e.now ≤ 100
entry_small c = subst (λ z. unsigned_abs z ≤ 100) (sym (entry_is c)) (c.requires.powers.small c.args.k c.args.row c.args.col c.requires.row c.requires.col)

result_is : (c : After-signed) → c.signed.result ≡ c.args.factor *ℤ c.in-Some.e.now
result_is c = c.signed.ensures.value ∙ product_plain c.args.factor c.in-Some.e.now 1 100 c.requires.unit (entry_small c) (lit< tt) (lit< tt) (lit< tt)

result_small : (c : After-signed) → unsigned_abs c.signed.result ≤ 100
result_small c =
    let b = c.signed.ensures.bound in
    let e = ap unsigned_abs (plain c.in-Some.e.now 100 (entry_small c) (lit< tt)) in
    let s = entry_small c in
    omega (arith, b, e, s)

pub returns-in-Some-clause-value : goal.returns-in-Some-clause-value
returns-in-Some-clause-value c = plain c.signed.result 100 (result_small c) (lit< tt) ∙ result_is c ∙ ap (λ z. c.args.factor *ℤ z) (entry_is c)

pub returns-in-Some-clause-bound : goal.returns-in-Some-clause-bound
returns-in-Some-clause-bound c = subst (λ z. unsigned_abs z ≤ 100) (sym (plain c.signed.result 100 (result_small c) (lit< tt))) (result_small c)
