use Rattle.std.proofs.Common.{◌+◌, ◌*◌, ◌%◌, ◌^◌, ◌<◌, sym, ap, ◌∙◌, arith, rules}
use Rattle.std.proofs.Math.Nat.{mod-lt}
use Rattle.lie_field.proofs.Digitwise.{sum-none, sum_step, room, place}
use Rattle.lie_field.proofs.digits.+sum_of.Goals as goal

pub overflow_add-result : goal.overflow_add-result
overflow_add-result t c =
    let p = c.args.p in
    let r = room p c.args.k c.requires.p_pos (let k : 0 < c.args.k = search rules in k) in
    let x : c.args.a % p < p = mod-lt c.args.a c.requires.p_pos in
    let y : c.args.b % p < p = mod-lt c.args.b c.requires.p_pos in
    search (rules, r.p_small)

pub sum_of-requires : goal.sum_of-requires
sum_of-requires t c =
    let r = room c.args.p c.args.k c.requires.p_pos (let k : 0 < c.args.k = search rules in k) in
    (search rules, (c.requires.p_pos, omega (arith, r.rest_small, c.requires.small)))

pub overflow_mul-result : goal.overflow_mul-result
overflow_mul-result t c =
    let p = c.args.p in
    let k : 0 < c.args.k = search rules in
    let d = (c.args.a % p + c.args.b % p) % p in
    let whole = place p c.args.k d c.sum_of.result c.requires.p_pos k (mod-lt (c.args.a % p + c.args.b % p) c.requires.p_pos) c.sum_of.ensures.below in
    let b : p * c.sum_of.result < 2 ^ 32 = omega (arith, whole, c.requires.small) in
    search (rules, b)

pub overflow_add-result-else-k-eq0 : goal.overflow_add-result-else-k-eq0
overflow_add-result-else-k-eq0 t c =
    let p = c.args.p in
    let k : 0 < c.args.k = search rules in
    let d = (c.args.a % p + c.args.b % p) % p in
    let whole = place p c.args.k d c.sum_of.result c.requires.p_pos k (mod-lt (c.args.a % p + c.args.b % p) c.requires.p_pos) c.sum_of.ensures.below in
    let b : d + p * c.sum_of.result < 2 ^ 32 = omega (arith, whole, c.requires.small) in
    search (rules, b)

pub returns-then-k-eq0-clause-value : goal.returns-then-k-eq0-clause-value
returns-then-k-eq0-clause-value t c = sum-none c.args.p c.args.k c.args.a c.args.b c.if-k-eq0.true

pub returns-else-k-eq0-clause-value : goal.returns-else-k-eq0-clause-value
returns-else-k-eq0-clause-value t c =
    let k : 0 < c.args.k = search rules in
    ap (λ x. (c.args.a % c.args.p + c.args.b % c.args.p) % c.args.p + c.args.p * x) c.sum_of.ensures.value
    ∙ sym (sum_step c.args.p c.args.k c.args.a c.args.b k)

pub returns-else-k-eq0-clause-below : goal.returns-else-k-eq0-clause-below
returns-else-k-eq0-clause-below t c =
    let p = c.args.p in
    let k : 0 < c.args.k = search rules in
    place p c.args.k ((c.args.a % p + c.args.b % p) % p) c.sum_of.result c.requires.p_pos k (mod-lt (c.args.a % p + c.args.b % p) c.requires.p_pos) c.sum_of.ensures.below
