use Rattle.std.proofs.Common.{◌≡◌, suc, ◌*◌, ◌^◌, ◌<◌, ◌≤◌, sym, ap, ◌∙◌, arith}
use Rattle.std.proofs.Math.Nat.{pow-suc, pow-le-pow_right, div-lt_iff_lt-mul}
use Rattle.lie_field.specs.Faults.{order_limit}
use Rattle.lie_field.proofs.fields.size_of.Goals as goal

pub returns-then-q-p : goal.returns-then-q-p
returns-then-q-p c s =
    let p = c.args.p in
    let i = c.loop-i._i in
    let above : order_limit < c.loop-i.q * p = (div-lt_iff_lt-mul {k = p} {x = order_limit} {y = c.loop-i.q} (omega (arith, s.0))).0 c.if-q-p.true in
    let next : c.loop-i.q * p ≡ p ^ suc i = ap (λ z. z * p) c.loop-i.invariant.0 ∙ sym (pow-suc p i) in
    let whole : p ^ suc i ≤ p ^ c.args.k = pow-le-pow_right (omega (arith, s.0)) c.loop-i-test.true in
    absurd (let never : ⊥ = omega (arith, s.2, above, next, whole) in never)
